-- The mapping L: a Boolean for each value, tied to FL's digits. Assumes nothing.
use Rattle.mapping.specs.Meanings.{Meaning, guarded}
use Rattle.encodings.specs.FullLogarithmic.{full_logarithmic}
use Rattle.encodings.specs.Ties.{tied}

abbrev pub logarithmic : Meaning
logarithmic = guarded (tied full_logarithmic)
