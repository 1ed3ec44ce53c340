-- The number of a class is its place in the enum.
use mathlib.Core.Path.{◌≡◌, refl}
use denote.Enum.Declared.{tag_of}
use Rattle.forms.specs.declared.Class.{Class}
use Rattle.forms.specs.declared.Class.TheVariants.{Creates, Builds, TakesBack, Starts, Opens, Steps, Drops, Lists}
use Rattle.forms.specs.contracts.Class.{the_type as class_type}
use Rattle.refusals.specs.Refusals.{class_number}

pub class_number_lem : (c : Class) → tag_of class_type c ≡ class_number c
unfolding class_number
class_number_lem Creates = refl
class_number_lem Builds = refl
class_number_lem TakesBack = refl
class_number_lem Starts = refl
class_number_lem Opens = refl
class_number_lem Steps = refl
class_number_lem Drops = refl
class_number_lem Lists = refl
