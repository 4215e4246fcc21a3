-- A reader's place in the chunks of a body goes as `http1`'s machine of chunks does.
use Rattle.std.proofs.Common.{◌≡◌, ◌≢◌, ◌==◌, ℕ, suc, ◌+◌, ◌-◌, ◌<◌, ◌≤◌, Bool, true, false, cond, eqb, List, [], ◌∷◌, ◌++◌, length, drop, take, get_or, refl, sym, ap, ◌∙◌, subst, arith}
use Rattle.std.proofs.lemmas.Bool.{ne_eqb}
use Rattle.std.proofs.lemmas.List.{drop-drop, drop_more, length-drop, length-take-le, take-append-drop}
use Rattle.std.proofs.lemmas.Bool.Decides.{nat_tests}
use Rattle.http1.specs.declared.chunked.State.{State}
use Rattle.http1.specs.declared.chunked.State.TheVariants as state
use Rattle.http1.specs.declared.chunked.ChunkedDecoder.{ChunkedDecoder}
use Rattle.http1.specs.ChunkedDecoder.{decoder, step, step_from, HasNotFailed, IsDone, Use, skips, yields, stops, use_of, Run, run_result, run}
use Rattle.http1.proofs.RunLemmas.{run-cons, run-nil, run_stops}
use Rattle.dav_wire.specs.declared.spot.Spot.{Spot}
use Rattle.dav_wire.specs.declared.spot.Spot.TheVariants.{Size, Line, Data}
use Rattle.dav_wire.specs.Spots.{next_spot, spot_after, spot_of, to_come}
use Rattle.dav_wire.specs.Refusals.{left_in}

-- ---- bytes of data

pub spot_data : (xs : List ℕ) (left : ℕ) → length xs ≤ left → spot_after (Data left) xs ≡ Data (left - length xs)
spot_data [] left fits = ap Data (omega arith)
spot_data (x ∷ xs) left fits =
    let some : eqb left 0 ≡ false = ne_eqb left 0 (omega (arith, fits)) in
    let same : left - 1 - length xs ≡ left - suc (length xs) = omega arith in
    ap (λ b. spot_after (cond b (Line 0) (Data (left - 1))) xs) some ∙ spot_data xs (left - 1) (omega (arith, fits)) ∙ ap Data same

pub spot_split : (xs ys : List ℕ) (spot : Spot) → spot_after spot (xs ++ ys) ≡ spot_after (spot_after spot xs) ys
spot_split [] ys spot = refl
spot_split (x ∷ xs) ys spot = spot_split xs ys (next_spot spot x)

-- a place where data is to come
is_data : (spot : Spot) → 0 < to_come spot → spot ≡ Data (to_come spot)
is_data (Size size) some = absurd (omega (arith, some))
is_data (Line size) some = absurd (omega (arith, some))
is_data (Data left) some = refl

module _ (xs : List ℕ) where
  -- over bytes of data
  pub spot_past : (i count : ℕ) (spot : Spot) → 0 < count → i + count ≤ length xs → count ≤ to_come spot
      → spot_after (Data (to_come spot - count)) (drop (i + count) xs) ≡ spot_after spot (drop i xs)
  spot_past i count spot some within fits =
      let tail = drop i xs in
      let long : length (take count tail) ≡ count = length-take-le count tail (omega (arith, within, length-drop i xs)) in
      let split : tail ≡ take count tail ++ drop (i + count) xs =
      sym (take-append-drop count tail) ∙ ap (λ (t : List ℕ). take count tail ++ t) (drop-drop count i xs) in
      let moved : spot_after spot (take count tail) ≡ Data (to_come spot - count) =
      ap (λ s. spot_after s (take count tail)) (is_data spot (omega (arith, some, fits)))
      ∙ spot_data (take count tail) (to_come spot) (omega (arith, long, fits)) ∙ ap (λ n. Data (to_come spot - n)) long in
      sym (ap (spot_after spot) split ∙ spot_split (take count tail) (drop (i + count) xs) spot
      ∙ ap (λ s. spot_after s (drop (i + count) xs)) moved)

  -- over one byte
  pub spot_one : (i : ℕ) (spot : Spot) → i < length xs
      → spot_after (next_spot spot (get_or xs i 0)) (drop (i + 1) xs) ≡ spot_after spot (drop i xs)
  spot_one i spot inside = ap (spot_after spot) (sym (drop_more xs i 0 inside))

-- ---- one byte

module _ (room b : ℕ) where
  abbrev Goes : State → Type 0
  Goes s = HasNotFailed (step_from s room b) → spot_of (step_from s room b).state ≡ next_spot (spot_of s) b

  goes_start : Goes state.Start
  goes_start live = grind (arith, nat_tests)

  goes_size : (n : ℕ) → Goes (state.Size n)
  goes_size n live = grind (arith, nat_tests)

  goes_blank : (n : ℕ) → Goes (state.Blank n)
  goes_blank n live = grind (arith, nat_tests)

  goes_extension : (n : ℕ) → Goes (state.Extension n)
  goes_extension n live = grind (arith, nat_tests)

  goes_lf : (n : ℕ) → Goes (state.SizeLf n)
  goes_lf n live = grind (arith, nat_tests)

  goes_data : (left : ℕ) → Goes (state.Data left)
  goes_data left live = grind (arith, nat_tests)

  goes_cr : Goes state.DataCr
  goes_cr live = grind (arith, nat_tests)

  goes_end : Goes state.DataLf
  goes_end live = grind (arith, nat_tests)

  goes_on : (s : State) → use_of s ≢ stops → Goes s
  goes_on state.Start other = goes_start
  goes_on (state.Size n) other = goes_size n
  goes_on (state.Blank n) other = goes_blank n
  goes_on (state.Extension n) other = goes_extension n
  goes_on (state.SizeLf n) other = goes_lf n
  goes_on (state.Data left) other = goes_data left
  goes_on state.DataCr other = goes_cr
  goes_on state.DataLf other = goes_end
  goes_on state.Done other = absurd (other refl)
  goes_on (state.Failed e) other = absurd (other refl)

-- ---- a run

-- a run that hasn't failed at its end hasn't at its start
lives : (d next : ChunkedDecoder) (xs body rest : List ℕ) → run d xs ≡ run_result next body rest → HasNotFailed next → HasNotFailed d
lives d next xs body rest ran live e is =
    let stopped = run_stops d xs (ap use_of is) in live e (ap (λ (r : Run). r.ends.state) (sym ran ∙ stopped) ∙ is)

module _ (b : ℕ) (bs : List ℕ) (d next : ChunkedDecoder)
    (later : (body : List ℕ) → run (step d b) bs ≡ run_result next body [] → spot_of next.state ≡ spot_after (spot_of (step d b).state) bs)
    (live : HasNotFailed next) where
  follows_one : (body : List ℕ) → use_of d.state ≢ stops → run (step d b) bs ≡ run_result next body []
      → spot_of next.state ≡ spot_after (spot_of d.state) (b ∷ bs)
  follows_one body other on =
      let alive = lives (step d b) next bs body [] on live in
      later body on ∙ ap (λ s. spot_after s bs) (goes_on d.extension_room b d.state other alive)

  by_use : (u : Use) (body : List ℕ) → use_of d.state ≡ u → run d (b ∷ bs) ≡ run_result next body []
      → spot_of next.state ≡ spot_after (spot_of d.state) (b ∷ bs)
  by_use skips body is ran =
      follows_one body (λ e. let wrong = sym is ∙ e in cc) (sym (run-cons skips d b bs is) ∙ ran)
  by_use yields body is ran =
      let all = sym (run-cons yields d b bs is) ∙ ran in
      let given = (run (step d b) bs).body in
      follows_one given (λ e. let wrong = sym is ∙ e in cc)
      (λ i. run_result (ap (λ (r : Run). r.ends) all i) given (ap (λ (r : Run). r.rest) all i))
  by_use stops body is ran =
      let wrong = ap (λ (r : Run). r.rest) (sym (run-cons stops d b bs is) ∙ ran) in absurd cc

-- Where the machine goes over all of some bytes, the place goes with it.
pub spot_follows : (xs : List ℕ) (d next : ChunkedDecoder) (body : List ℕ) → run d xs ≡ run_result next body [] → HasNotFailed next
    → spot_of next.state ≡ spot_after (spot_of d.state) xs
spot_follows [] d next body ran live = ap (λ (r : Run). spot_of r.ends.state) (sym ran ∙ run-nil d)
spot_follows (b ∷ bs) d next body ran live =
    by_use b bs d next (λ given on. spot_follows bs (step d b) next given on live) live (use_of d.state) body refl ran

-- ---- what is to come

-- what is to come of a chunk is what the machine waits for
pub left_is : (s : State) → left_in s ≡ to_come (spot_of s)
left_is state.Start = refl
left_is (state.Size n) = refl
left_is (state.Blank n) = refl
left_is (state.Extension n) = refl
left_is (state.SizeLf n) = refl
left_is (state.Data left) = refl
left_is state.DataCr = refl
left_is state.DataLf = refl
left_is state.Done = refl
left_is (state.Failed e) = refl

abbrev GivesAll : ChunkedDecoder → List ℕ → Type 0
GivesAll d xs = IsDone (run d xs).ends → to_come (spot_of d.state) ≤ length (run d xs).body

gives_later : (t : Bool) (left room : ℕ) (bs : List ℕ) → (left == 0) ≡ t
    → ((n : ℕ) → GivesAll (decoder (state.Data n) room) bs)
    → IsDone (run (decoder (cond t state.DataCr (state.Data (left - 1))) room) bs).ends
    → left ≤ length (run (decoder (cond t state.DataCr (state.Data (left - 1))) room) bs).body
gives_later true left room bs none on done = grind (arith, nat_tests)
gives_later false left room bs some on done = let gives = on (left - 1) done in grind (arith, nat_tests)

gives_data : (xs : List ℕ) (left room : ℕ) → GivesAll (decoder (state.Data left) room) xs
gives_data [] left room done =
    let wrong = ap (λ (r : Run). r.ends.state) (sym (run-nil (decoder (state.Data left) room))) ∙ done in absurd cc
gives_data (b ∷ bs) left room done =
    let d = decoder (state.Data left) room in
    let on = run-cons yields d b bs refl in
    let later = gives_later (left == 0) left room bs refl (λ n. gives_data bs n room) (subst (λ (r : Run). IsDone r.ends) on done) in
    omega (arith, ap (λ (r : Run). length r.body) on, later)

-- a body in chunks has at least what is to come of the chunk that is read
pub gives_all : (s : State) (room : ℕ) (xs : List ℕ) → GivesAll (decoder s room) xs
gives_all state.Start room xs done = omega arith
gives_all (state.Size n) room xs done = omega arith
gives_all (state.Blank n) room xs done = omega arith
gives_all (state.Extension n) room xs done = omega arith
gives_all (state.SizeLf n) room xs done = omega arith
gives_all (state.Data left) room xs done = gives_data xs left room done
gives_all state.DataCr room xs done = omega arith
gives_all state.DataLf room xs done = omega arith
gives_all state.Done room xs done = omega arith
gives_all (state.Failed e) room xs done = omega arith
