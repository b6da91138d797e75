-- The mapping HR: as R, with a minus by FR's bounds. Assumes nothing.
use Rattle.mapping.specs.Meanings.{Meaning, guarded}
use Rattle.encodings.specs.FullRegular.{full_regular}
use Rattle.encodings.specs.Ties.{half_tied}

abbrev pub half_regular : Meaning
half_regular = guarded (half_tied full_regular)
