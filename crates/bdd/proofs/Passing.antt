-- What a `?` answers where it stops: the error of the call that it stands behind.
use Rattle.std.specs.Prelude.{Result, Ok, Err, IsErrAnd}
use mathlib.Core.Path.{◌≡◌, ap}

pub refused_as : {A E : Type 0} {r : Result A E} {why : E} → IsErrAnd r (λ e. e ≡ why) → r ≡ Err why
refused_as {r = Ok x} h = absurd h
refused_as {r = Err e} h = ap Err h
