-- Which texts are kept as prefixes.
use Rattle.std.proofs.Common.{◌≡◌, ℕ, ◌++◌, List, [], Bool, false, IsTrue, sym, subst, ap, ◌∙◌}
use Rattle.dav_core.specs.declared.errors.ParseError.TheVariants.{InvalidPath, ForbiddenPath}
use Rattle.dav_core.specs.Path.{PathText, full_bytes}
use Rattle.dav_core.specs.Target.{Reads, IsRefused}
use Rattle.dav_core.proofs.Theorems.{Reads-one, Reads-valid, Reads-allowed}

-- a text that names a path is kept where the path's bytes are its own
pub kept_iff : (text given : List ℕ) (p : PathText) (same : Bool) → p.prefix ≡ [] → Reads text p.bytes → given ≡ full_bytes p
    → (IsTrue same → given ≡ text) × (given ≡ text → IsTrue same) → (IsTrue same → Reads text text) × (Reads text text → IsTrue same)
kept_iff text given p same bare reads is equal =
    let whole : given ≡ p.bytes = is ∙ ap (λ (l : List ℕ). l ++ p.bytes) bare in (
      λ yes. subst (Reads text) (sym whole ∙ equal.0 yes) reads,
      λ kept. equal.1 (whole ∙ Reads-one text p.bytes text reads kept),
    )

-- a text that is refused isn't kept
pub invalid_not_kept : (text : List ℕ) → IsRefused text InvalidPath → ¬ Reads text text
invalid_not_kept text bad kept = Reads-valid text text kept bad

pub climbing_not_kept : (text : List ℕ) → IsRefused text ForbiddenPath → ¬ Reads text text
climbing_not_kept text climbs kept = Reads-allowed text text kept climbs

-- the test of what never holds
pub never : {P : Type 0} → ¬ P → (IsTrue false → P) × (P → IsTrue false)
never not = (λ yes. absurd (cc), λ p. absurd (not p))
