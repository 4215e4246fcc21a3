-- The list of users, line by line, and the first user of a name.
use Rattle.std.proofs.Common.{◌≡◌, ◌≢◌, ◌==◌, ℕ, suc, ◌+◌, ◌<◌, ◌≤◌, List, [], ◌∷◌, ◌++◌, get_or, length, map, refl, sym, ap, ◌∙◌, subst, append_assoc, arith}
use Rattle.std.proofs.lemmas.List.{get_or-map, length-drop, length-map}
use Rattle.std.specs.List.{position_or_len}
use Rattle.dav_access.specs.declared.users.User.{User}
use Rattle.dav_access.specs.Users.{IsFirstFault, IsFirstOf, IsGoodLine, IsListed, IsSkipped, IsUserLine, ListsUsers, skipped, listed, here, later, line_of, next_lines}

-- ---- the first user of a name

-- the first of a name has one place
pub place_once : (users : List (List ℕ × List ℕ)) (name secret : List ℕ) (place : ℕ) → IsFirstOf users name place → (is : IsListed users name secret)
    → is.place ≡ place
place_once users name secret place first is =
    let before : is.place < place → ⊥ = λ lt. first.first is.place ([], []) (omega arith) lt (ap (λ u. u.0) (is.here ([], []))) in
    let after : place < is.place → ⊥ = λ lt. is.first place ([], []) (omega arith) lt (first.here ([], [])) in
    omega arith

-- ---- the text of a list, line by line

module _ (text rest line after : List ℕ) (some : rest ≢ []) (is : line ≡ line_of rest) (then : after ≡ next_lines rest) where
  -- a line that is skipped lists nobody
  pub line_skipped : (users more : List (List ℕ × List ℕ)) → IsSkipped line → ((m : List (List ℕ × List ℕ)) → ListsUsers rest m → ListsUsers text (users ++ m))
      → ListsUsers after more → ListsUsers text (users ++ more)
  line_skipped users more skips so_far h =
      so_far more (skipped some (subst IsSkipped is skips) (subst (λ (t : List ℕ). ListsUsers t more) then h))

  -- a user's line lists the user
  pub line_listed : (users more : List (List ℕ × List ℕ)) (user : List ℕ × List ℕ) → ¬ IsSkipped line → IsUserLine line user
      → ((m : List (List ℕ × List ℕ)) → ListsUsers rest m → ListsUsers text (users ++ m))
      → ListsUsers after more → ListsUsers text ((users ++ user ∷ []) ++ more)
  line_listed users more user stays says so_far h =
      rw (append_assoc users (user ∷ []) more)
      (so_far (user ∷ more) (listed some (λ s. stays (subst IsSkipped (sym is) s)) (subst (λ (l : List ℕ). IsUserLine l user) is says)
      (subst (λ (t : List ℕ). ListsUsers t more) then h)))

  -- past a good line the first fault is a line further
  pub fault_further : (count number : ℕ) → IsGoodLine line → ((n : ℕ) → IsFirstFault rest n → IsFirstFault text (count + n))
      → IsFirstFault after number → IsFirstFault text (count + 1 + number)
  fault_further count number good so_far h =
      let one : count + 1 + number ≡ count + (number + 1) = omega arith in
      rw one (so_far (number + 1) (later some (subst IsGoodLine is good) (subst (λ (t : List ℕ). IsFirstFault t number) then h)))

  -- a line that a list may not have is the first fault
  pub fault_here : (count : ℕ) → ¬ IsGoodLine line → ((n : ℕ) → IsFirstFault rest n → IsFirstFault text (count + n)) → IsFirstFault text (count + 1)
  fault_here count bad so_far = so_far 1 (here some (λ good. bad (subst IsGoodLine (sym is) good)))

-- ---- a list of users by its fields

-- what the list has at the place of a user
pub user_at : (us : List (List ℕ × List ℕ)) (xs : List User) (place : ℕ) (user : User) (d : List ℕ × List ℕ) → map (λ u. (u.name, u.check)) xs ≡ us
    → place < length xs → user ≡ get_or xs place user → get_or us place d ≡ (user.name, user.check)
user_at us xs place user d view within item =
    let f : User → List ℕ × List ℕ = λ u. (u.name, u.check) in
    ap (λ (vs : List (List ℕ × List ℕ)). get_or vs place d) (sym view) ∙ get_or-map f xs place user d within ∙ ap f (sym item)

-- a place in the one is one in the other
pub place_in : (us : List (List ℕ × List ℕ)) (xs : List User) (place : ℕ) → map (λ u. (u.name, u.check)) xs ≡ us → place < length xs → place < length us
place_in us xs place view within =
    let f : User → List ℕ × List ℕ = λ u. (u.name, u.check) in
    subst (λ (vs : List (List ℕ × List ℕ)). place < length vs) view (rw (length-map xs f) within)

pub place_out : (us : List (List ℕ × List ℕ)) (xs : List User) (place : ℕ) → map (λ u. (u.name, u.check)) xs ≡ us → place < length us → place < length xs
place_out us xs place view within =
    let f : User → List ℕ × List ℕ = λ u. (u.name, u.check) in
    rw (length-map xs f) at (subst (λ (vs : List (List ℕ × List ℕ)). place < length vs) (sym view) within)

-- what follows the first line of a text is shorter than the text
pub cut_shorter : (rest after : List ℕ) → rest ≢ [] → after ≡ next_lines rest → length after + 1 ≤ length rest
cut_shorter [] after some then = absurd (some refl)
cut_shorter (b ∷ bs) after some then =
    let place = position_or_len (λ b. b == 10) (b ∷ bs) in
    let len = ap length then ∙ length-drop (place + 1) (b ∷ bs) in
    let whole : length (b ∷ bs) ≡ suc (length bs) = refl in
    omega (arith, len, whole)
