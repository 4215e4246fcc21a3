-- What a call answers, from what the call that it rests on answers.
use Rattle.std.proofs.Common.{◌≡◌, Result, Ok, Err, sym, subst}
use Rattle.std.specs.Prelude.{IsErrAnd}
use Rattle.dav_headers.specs.Value.{ReadsAs}
use Rattle.dav_headers.specs.declared.errors.HeaderError.{HeaderError}
use Rattle.dav_headers.specs.declared.errors.HeaderError.TheVariants.{Invalid, Memory}

-- an allocation failed, where the input reads
pub out_of_memory : {A B C : Type 0} (view : C → B) (g : A → B → Type 0) (input : A) (r : Result C HeaderError) → IsErrAnd r (λ e. e ≡ Memory) → (x : B) × g input x → ReadsAs view g input r
out_of_memory view g input (Ok x) h reads = absurd h
out_of_memory view g input (Err e) h reads = subst (λ d. ReadsAs view g input (Err d)) (sym h) reads

-- an error of one reading is that of another, where either input reads exactly if the other does
pub error_as : {A B C D E F : Type 0} (v : C → B) (w : F → E) (g : A → B → Type 0) (h : D → E → Type 0) (input : A) (other : D) (e : HeaderError) → ((x : B) × g input x → (y : E) × h other y) → ((y : E) × h other y → (x : B) × g input x) → ReadsAs v g input (Err e) → ReadsAs w h other (Err e)
error_as v w g h input other Invalid to from none = λ y is. let (x, reads) = from (y, is) in none x reads
error_as v w g h input other Memory to from some = to some

-- an error that `?` passes on
pub passed_on : {A B C D E F : Type 0} (v : C → B) (w : F → E) (g : A → B → Type 0) (h : D → E → Type 0) (input : A) (other : D) (e : HeaderError) (r : Result F HeaderError) → IsErrAnd r (λ d. d ≡ e) → ((x : B) × g input x → (y : E) × h other y) → ((y : E) × h other y → (x : B) × g input x) → ReadsAs v g input (Err e) → ReadsAs w h other r
passed_on v w g h input other e (Ok x) is to from reads = absurd is
passed_on v w g h input other e (Err d) is to from reads =
    subst (λ i. ReadsAs w h other (Err i)) (sym is) (error_as v w g h input other e to from reads)

-- an error that is Invalid says that nothing reads
pub none_read : {A B C : Type 0} (view : C → B) (g : A → B → Type 0) (input : A) (e : HeaderError) → e ≡ Invalid → ReadsAs view g input (Err e) → (x : B) → ¬ g input x
none_read view g input Invalid is h = h
none_read view g input Memory is h = absurd (cc)
