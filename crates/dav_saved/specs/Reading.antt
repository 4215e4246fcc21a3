-- Reading what was saved: a value and the bytes behind it, or nothing where no value stands in
-- front.
use Rattle.std.specs.Prelude.{◌≡◌, ℕ, zero, suc, List, [], ◌∷◌, length, take, drop, Option, Some, None, Result, Ok, Err, nat_lt, Bool, if◌then◌else◌}
use Rattle.std.specs.Int.{w64, from_be_bytes}
use Rattle.std.specs.Str.{is_utf8}
use Rattle.dav_saved.specs.declared.errors.LoadError.{LoadError}
use Rattle.dav_saved.specs.declared.errors.LoadError.TheVariants.{Memory, NotSaved}

-- What reading gives: a value, and the bytes behind it; none where no value stands in front.
abbrev pub Read : Type 0 → Type 0
Read A = Option (A × List ℕ)

infixl 10 ◌>>=◌
-- what a step gives of the value that an earlier one gave; none where that gave none
abbrev pub ◌>>=◌ : {A B : Type 0} → Option A → (A → Option B) → Option B
(Some x) >>= f = f x
None >>= f = None

-- An error says this of what reading gives: that memory ran out says nothing, any other that it
-- gives none.
abbrev pub Fails : {Y : Type 0} → LoadError → Option Y → Type 0
Fails Memory read = Unit {0}
Fails NotSaved read = read ≡ None

-- What a function returned, as contracts see it, is what reading gives, unless memory ran out.
abbrev pub Gives : {X Y : Type 0} → (X → Y) → Result X LoadError → Option Y → Type 0
Gives view (Ok x) read = read ≡ Some (view x)
Gives view (Err e) read = Fails e read

-- reads a number
unfoldable pub number_at : List ℕ → Read ℕ
number_at bytes = if nat_lt (length bytes) 8 then None else Some (from_be_bytes w64 (take 8 bytes), drop 8 bytes)

-- reads bytes, behind how many there are
unfoldable pub sized_at : List ℕ → Read (List ℕ)
sized_at bytes = do
  n ← number_at bytes
  if nat_lt (length n.1) n.0 then None else Some (take n.0 n.1, drop n.0 n.1)

-- reads bytes that are UTF-8
unfoldable pub text_at : List ℕ → Read (List ℕ)
text_at bytes = do
  t ← sized_at bytes
  if is_utf8 t.0 then Some t else None

-- reads a text that may be missing
unfoldable pub optional_at : List ℕ → Read (Option (List ℕ))
optional_at [] = None
optional_at (zero ∷ rest) = Some (None, rest)
optional_at (suc zero ∷ rest) = do
  t ← text_at rest
  Some (Some t.0, t.1)
optional_at (suc (suc b) ∷ rest) = None

-- reads two texts
unfoldable pub pair_at : List ℕ → Read (List ℕ × List ℕ)
pair_at bytes = do
  a ← text_at bytes
  b ← text_at a.1
  Some ((a.0, b.0), b.1)

-- reads this many items
unfoldable pub many_at : {A : Type 0} → (List ℕ → Read A) → ℕ → List ℕ → Read (List A)
many_at one zero bytes = Some ([], bytes)
many_at one (suc n) bytes = do
  first ← one bytes
  others ← many_at one n first.1
  Some (first.0 ∷ others.0, others.1)

-- reads a list: how many items there are, and that many
unfoldable pub list_at : {A : Type 0} → (List ℕ → Read A) → List ℕ → Read (List A)
list_at one bytes = do
  n ← number_at bytes
  many_at one n.0 n.1
