-- What a line says. Assumes nothing.
use Rattle.std.specs.Prelude.{ℕ, cond, List, [], ◌∷◌, Some, None, vec_items, Option, ◌==◌}
use Rattle.std.specs.Option.{option_map}
use Rattle.encodings.specs.Names.{name_of}
use Rattle.encodings.specs.declared.names.Name.{Name}
use Rattle.formula.specs.declared.signed.Literal.{Literal}
use Rattle.parser.specs.Cuts.{given, parts}
use Rattle.parser.specs.Fields.{number_of, literals_of}
use Rattle.parser.specs.declared.lines.Line.{Line}
use Rattle.parser.specs.declared.lines.Line.TheVariants as code

-- a mapping's name, a variable's size, or the literals of a clause
pub data Said : Type 0 where
  maps : Name → Said
  declares : ℕ → Said
  states : List Literal → Said

-- what stands behind exactly one space (32)
abbrev pub field_of : List ℕ → Option (List ℕ)
field_of [] = None
field_of (b ∷ bs) = cond (b == 32) (Some bs) None

-- the literals of a clause, each behind one space: none at all is the empty clause
abbrev pub clause_fields : List ℕ → Option (List Literal)
clause_fields [] = Some []
clause_fields (b ∷ bs) = given (field_of (b ∷ bs)) (λ fs. literals_of (parts 32 fs))

-- what a line says, if it can be read: it is a command byte, m (109), d (100) or s (115), and its fields
abbrev pub said : List ℕ → Option Said
said [] = None
said (b ∷ bs) =
    cond (b == 109) (option_map maps (given (field_of bs) name_of))
    (cond (b == 100) (option_map declares (given (field_of bs) number_of))
    (cond (b == 115) (option_map states (clause_fields bs)) None))

-- a line as code keeps it
abbrev pub said_of : Line → Said
said_of (code.Mapping n) = maps n
said_of (code.Declare m) = declares m
said_of (code.State ls) = states (vec_items ls)
