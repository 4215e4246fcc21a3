-- Lists of what is watched, one after another.
use Rattle.std.proofs.Common.{◌≡◌, ◌<◌, ◌++◌, ◌∷◌, [], true, All, MatchOption, List, ℕ, get_or, length, sym, ap, subst, ◌∙◌}
use Rattle.std.specs.Prelude.{⊤, None, Option, Some}
use Rattle.std.proofs.lemmas.List.Elements.{All-head, All-push, All-tail}
use Rattle.dav_core.specs.Locks.{Lock}
use Rattle.dav_core.specs.Path.{Path, is_at_or_under, names}
use Rattle.dav_core.specs.World.{IsWorld}
use Rattle.dav_server.specs.Server.{Server}
use Rattle.dav_store.specs.declared.memfs.used.Amount.{Amount}
use Rattle.dav_store.specs.Used.{amount_at, amount_of}
use Rattle.dav_confined.specs.Asked.{AskedView}
use Rattle.dav_limits.specs.declared.watches.Part.{Part}
use Rattle.dav_limits.specs.declared.watches.Watch.{Watch}
use Rattle.dav_limits.specs.Parts.{part_of}
use Rattle.dav_limits.specs.Watches.{AreExact, IsPart, IsReading}
use Rattle.dav_limits.proofs.PathLemmas.{one_path}

pub all_first : {X : Type 0} (P : X → Type 0) (xs ys : List X) (x : X) → xs ≡ x ∷ ys → All P xs → P x × All P ys
all_first P xs ys x is all = (All-head P x ys (subst (All P) is all), All-tail P x ys (subst (All P) is all))

pub at_some : {A : Type 0} (N : Type 0) (P : A → Type 0) (o : Option A) (a : A) → o ≡ Some a → MatchOption o N P → P a
at_some {A} N P o a is m = subst (λ (t : Option A). MatchOption t N P) is m

-- what is watched at a place
pub known_exact : (s : Server) (ws : List Watch) (i : ℕ) (w : Watch) (p : Path) → AreExact s ws → i < length ws → w ≡ get_or ws i w → is_at_or_under (names w.path) p ≡ true
    → is_at_or_under p (names w.path) ≡ true → w.amount ≡ amount_at p s.state.store.world.nodes
known_exact s ws i w p exact within is one other =
    subst (λ (v : Watch). v.amount ≡ amount_at (names v.path) s.state.store.world.nodes) (sym is) (exact i w within)
    ∙ ap (λ (q : Path). amount_at q s.state.store.world.nodes) (one_path (names w.path) p one other)

pub more_exact : (s : Server) (ws new : List Watch) (w : Watch) → AreExact s ws → w.amount ≡ amount_at (names w.path) s.state.store.world.nodes → new ≡ ws ++ w ∷ [] → AreExact s new
more_exact s ws new w exact one is = subst (AreExact s) (sym is) (All-push (λ (v : Watch). v.amount ≡ amount_at (names v.path) s.state.store.world.nodes) ws w exact one)

module _ (s : Server) (head : List ℕ) (asked : Option AskedView) where
  pub noted_part : (w : Watch) (o : Option Amount) (a : Amount) (ls : List Lock) → IsReading s head asked → IsWorld s.state.store.world
      → w.amount ≡ amount_at (names w.path) s.state.store.world.nodes → MatchOption o ⊤ (λ m. m ≡ amount_of (part_of (names w.path) asked s.state.store.world.nodes)) → o ≡ Some a
      → s.state.locks ≡ Some ls → IsPart s head asked (record { path = w.path; amount = w.amount; part = a })
  noted_part w o a ls reading world amount told is locked = record {
    reading = reading;
    world = world;
    amount = amount;
    part = at_some ⊤ (λ (m : Amount). m ≡ amount_of (part_of (names w.path) asked s.state.store.world.nodes)) o a is told;
    locks = ls;
    locked = locked;
  }

  pub more_noted : (ps new : List Part) (p : Part) → All (IsPart s head asked) ps → IsPart s head asked p → new ≡ ps ++ p ∷ [] → All (IsPart s head asked) new
  more_noted ps new p all one is = subst (All (IsPart s head asked)) (sym is) (All-push (IsPart s head asked) ps p all one)

pub at_none : {A N : Type 0} (P : A → Type 0) (o : Option A) → o ≡ None → MatchOption o N P → N
at_none {A} {N} P o is m = subst (λ (t : Option A). MatchOption t N P) is m
