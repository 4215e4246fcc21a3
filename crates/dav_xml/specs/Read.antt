-- Reading from left to right, with the first fault that is met.
use Rattle.std.specs.Prelude.{◌≡◌, Option, Some, None, Result, Ok, Err}
use Rattle.dav_xml.specs.declared.error.Fault.{Fault}
use Rattle.dav_xml.specs.declared.error.Fault.TheVariants.{Malformed}
use Rattle.dav_xml.specs.declared.error.XmlError.{XmlError}
use Rattle.dav_xml.specs.declared.error.XmlError.TheVariants as errors

infixl 10 ◌>>=◌
-- goes on with what was read; after a fault, the fault stays
abbrev pub ◌>>=◌ : {A B : Type 0} → Result A Fault → (A → Result B Fault) → Result B Fault
(Ok x) >>= f = f x
(Err e) >>= f = Err e

-- The error of a call, where reading gives this: it is that very fault, or memory ran out.
abbrev pub Fails : {Y : Type 0} → XmlError → Result Y Fault → Type 0
Fails errors.Memory read = Unit {0}
Fails (errors.Fault f) read = read ≡ Err f

-- What a call returns, seen by a view, is what reading gives: `Ok` where it gives something, that very fault where it gives one; of a
-- call that ran out of memory nothing is said.
abbrev pub Gives : {X Y : Type 0} → (X → Y) → Result X XmlError → Result Y Fault → Type 0
Gives view (Ok x) read = read ≡ Ok (view x)
Gives view (Err e) read = Fails e read

-- what was found; `Malformed` where nothing was
abbrev pub needed : {X : Type 0} → Option X → Result X Fault
needed None = Err Malformed
needed (Some x) = Ok x
