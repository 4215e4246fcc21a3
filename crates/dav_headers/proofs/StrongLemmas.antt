-- The strong comparison of entity tags.
use Rattle.std.proofs.Common.{◌≡◌, ◌&&◌, not, bytes_eq, ℕ, Bool, true, false, true≢false, List, refl, sym, ◌∙◌}
use Rattle.std.specs.Bool.{Decides}
use Rattle.std.proofs.lemmas.Slice.Eq.{bytes_eq-Decides}
use Rattle.dav_headers.specs.Laws.{StrongIsSymmetric, StrongIsTransitive, StrongMatchesItself}

-- equal propositions are decided alike
alike : {P Q : Type 0} (b d : Bool) → Decides b P → Decides d Q → (P → Q) → (Q → P) → b ≡ d
alike true true p q to from = refl
alike true false p q to from = sym (q.1 (to (p.0 refl)))
alike false true p q to from = p.1 (from (q.0 refl))
alike false false p q to from = refl

symmetric : (v w : Bool) (x y : List ℕ) → (not v && not w && bytes_eq x y) ≡ (not w && not v && bytes_eq y x)
symmetric false false x y = alike (bytes_eq x y) (bytes_eq y x) (bytes_eq-Decides x y) (bytes_eq-Decides y x) sym sym
symmetric false true x y = refl
symmetric true false x y = refl
symmetric true true x y = refl

pub strong_is_symmetric : StrongIsSymmetric
strong_is_symmetric e f = symmetric e.weak f.weak e.tag f.tag

transitive : (u v w : Bool) (x y z : List ℕ) → (not u && not v && bytes_eq x y) ≡ true → (not v && not w && bytes_eq y z) ≡ true → (not u && not w && bytes_eq x z) ≡ true
transitive false false false x y z one two = (bytes_eq-Decides x z).1 ((bytes_eq-Decides x y).0 one ∙ (bytes_eq-Decides y z).0 two)
transitive false false true x y z one two = absurd (true≢false (sym two))
transitive false true w x y z one two = absurd (true≢false (sym one))
transitive true v w x y z one two = absurd (true≢false (sym one))

pub strong_is_transitive : StrongIsTransitive
strong_is_transitive e f g = transitive e.weak f.weak g.weak e.tag f.tag g.tag

itself : (v : Bool) (x : List ℕ) → (not v && not v && bytes_eq x x) ≡ not v
itself false x = (bytes_eq-Decides x x).1 refl
itself true x = refl

pub strong_matches_itself : StrongMatchesItself
strong_matches_itself e = itself e.weak e.tag
