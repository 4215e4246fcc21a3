-- The path that a resource tag names.
use Rattle.std.proofs.Common.{◌≡◌, ◌≢◌, ◌++◌, ◌∙◌, ℕ, List, [], Option, Some, None, Result, Ok, Err, IfOk, refl, sym, subst, ap}
use Rattle.std.specs.Option.{option_map}
use Rattle.url.specs.Parts.{Parts}
use Rattle.dav_core.specs.declared.errors.ParseError.{ParseError}
use Rattle.dav_core.specs.declared.errors.ParseError.TheVariants as parse
use Rattle.dav_core.specs.Path.{Path, PathText, names, full_bytes, star, IsCut, without_slash}
use Rattle.dav_core.specs.PathRef.{IsCutRefused}
use Rattle.dav_core.specs.Target.{Reads, IsRefused}
use Rattle.dav_core.proofs.Theorems.{Reads-one, Reads-valid, Reads-allowed}
use Rattle.dav_engine.specs.Conditions.{TagNames, SpeaksOf}

-- a resource tag whose path is refused names none
pub refused_names_none : (prefix : List ℕ) (url : Parts) (src : List ℕ) (e : ParseError) → src ≡ url.path → IsRefused src e → e ≢ parse.Memory → (q : Path) → ¬ TagNames prefix url q
refused_names_none prefix url src parse.InvalidPath is refused other q named =
    Reads-valid src named.0 (subst (λ (s : List ℕ). Reads s named.0) (sym is) named.2) refused
refused_names_none prefix url src parse.ForbiddenPath is refused other q named =
    Reads-allowed src named.0 (subst (λ (s : List ℕ). Reads s named.0) (sym is) named.2) refused
refused_names_none prefix url src parse.PrefixMismatch is refused other q named = refused
refused_names_none prefix url src parse.Memory is refused other q named = other refl

-- nor does one whose path isn't below the prefix
pub outside_names_none : (prefix : List ℕ) (url : Parts) (src : List ℕ) (p : PathText) (e : ParseError) → src ≡ url.path → p.prefix ≡ [] → Reads src p.bytes
    → IsCutRefused (without_slash prefix) (full_bytes p) e → e ≢ parse.Memory → (q : Path) → ¬ TagNames prefix url q
outside_names_none prefix url src p parse.PrefixMismatch is bare reads refused other q named =
    let same : full_bytes p ≡ named.0 = ap (λ x. x ++ p.bytes) bare ∙ Reads-one src p.bytes named.0 reads (subst (λ (s : List ℕ). Reads s named.0) (sym is) named.2) in
    refused named.1 (subst (λ (x : List ℕ). IsCut (without_slash prefix) x named.1) (sym same) named.4)
outside_names_none prefix url src p parse.InvalidPath is bare reads refused other q named = refused
outside_names_none prefix url src p parse.ForbiddenPath is bare reads refused other q named = refused
outside_names_none prefix url src p parse.Memory is bare reads refused other q named = other refl

-- one whose path is below the prefix names what follows the prefix
pub below_names : (prefix : List ℕ) (url : Parts) (src : List ℕ) (p q : PathText) → src ≡ url.path → p.prefix ≡ [] → Reads src p.bytes
    → p.bytes ≢ star → IsCut (without_slash prefix) (full_bytes p) q → TagNames prefix url (names q)
below_names prefix url src p q is bare reads apart cut = (
  p.bytes,
  q,
  subst (λ (s : List ℕ). Reads s p.bytes) is reads,
  apart,
  subst (λ (x : List ℕ). IsCut (without_slash prefix) x q) (ap (λ x. x ++ p.bytes) bare) cut,
  refl,
)

-- so there is no path, unless memory ran out
pub speaks_of_none : {E : Type 0} (prefix : List ℕ) (url : Parts) (e : ParseError) (result : Result (Option PathText) E)
    → IfOk result (λ path. (path ≡ None) × (e ≢ parse.Memory)) → (e ≢ parse.Memory → (q : Path) → ¬ TagNames prefix url q)
    → IfOk result (λ path. SpeaksOf prefix [] (Some url) (option_map names path))
speaks_of_none prefix url e (Ok path) said none = rw said.0 (none said.1)
speaks_of_none prefix url e (Err x) said none = tt
