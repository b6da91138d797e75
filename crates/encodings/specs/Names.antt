-- The mappings by name. Assumes nothing.
use Rattle.std.specs.Prelude.{ℕ, Bool, cond, ◌&&◌, List, length, Some, None, Option, ◌==◌, slice_index}
use Rattle.mapping.specs.Meanings.{Meaning}
use Rattle.encodings.specs.FullRegular.{full_regular}
use Rattle.encodings.specs.declared.names.Name.{Name}
use Rattle.encodings.specs.declared.names.Name.TheVariants.{FullRegular}

-- bytes that are two letters
abbrev pub are_letters : List ℕ → ℕ → ℕ → Bool
are_letters bytes a b = length bytes == 2 && slice_index bytes 0 == a && slice_index bytes 1 == b

-- the mapping that bytes name, or none: FR is 70, 82
abbrev pub name_of : List ℕ → Option Name
name_of bytes = cond (are_letters bytes 70 82) (Some FullRegular) None

-- what each mapping means
abbrev pub meaning_of : Name → Meaning
meaning_of FullRegular = full_regular
