-- The mapping R: a Boolean for each value, tied to FR's bounds. Assumes nothing.
use Rattle.mapping.specs.Meanings.{Meaning, guarded}
use Rattle.encodings.specs.FullRegular.{full_regular}
use Rattle.encodings.specs.Ties.{tied}

abbrev pub regular : Meaning
regular = guarded (tied full_regular)
