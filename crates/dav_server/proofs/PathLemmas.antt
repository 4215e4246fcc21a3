-- One text names one path, as a target and as Destination.
use Rattle.std.proofs.Common.{◌≡◌, ◌≢◌, ℕ, arith, List, [], ◌∷◌, All, Option, Some, Result, Ok, Err, inl, inr, refl, sym, ap, subst, ◌∙◌}
use Rattle.std.specs.Prelude.{IsSomeAnd}
use Rattle.http_header.specs.FieldValue.{FieldValue}
use Rattle.dav_core.specs.declared.errors.ParseError.{ParseError}
use Rattle.dav_core.specs.declared.errors.ParseError.TheVariants as parse
use Rattle.dav_core.specs.declared.errors.DavError.{DavError}
use Rattle.dav_core.specs.declared.method.DavMethod.{DavMethod}
use Rattle.dav_core.specs.Path.{Path, PathText, IsName, joined, star, without_slash, IsCut, at_start, at_slash, at_end, HasNoCut}
use Rattle.dav_core.specs.Status.{path_error}
use Rattle.dav_core.specs.Target.{Reads, IsRefused}
use Rattle.dav_core.proofs.Theorems.{Leaves-names}
use Rattle.dav_headers.specs.Destination.{IsDestination, IsDestinationText}
use Rattle.dav_headers.specs.Value.{only_text}
use Rattle.dav_headers.proofs.Theorems.{one_destination}
use Rattle.dav_engine.specs.CopyMove.{DestinationNames}
use Rattle.dav_engine.specs.CopyMove as copying
use Rattle.dav_engine.proofs.Theorems.{bare, open_names}
use Rattle.dav_server.specs.PathLaws.{OneTextOnePath}
use Rattle.dav_server.specs.Setup.{IsPrefix}
use Rattle.dav_server.specs.Target.{BeginsWithSlash, HasPathText, TargetNames, server, unreadable, outside, path, invalid, climbing}
use Rattle.dav_server.proofs.TargetLemmas.{one_outcome}

-- ---- the prefix, without the slash at its end, has none there any more

names_alone : (ns : Path) → All IsName ns → without_slash (joined ns) ≡ joined ns
names_alone [] all = refl
names_alone (n ∷ ns) all = rw (open_names [] n ns all) refl

pub slash_no_star : (text : List ℕ) → BeginsWithSlash text → text ≢ star
slash_no_star text (rest, slash) is = let same : ◌≡◌ {A = ℕ} 47 42 = cc in absurd (omega (arith, same))

pub slash_once : (prefix : List ℕ) → IsPrefix prefix → without_slash (without_slash prefix) ≡ without_slash prefix
slash_once prefix (inl empty) = subst (λ (x : List ℕ). without_slash (without_slash x) ≡ without_slash x) (sym empty) refl
slash_once prefix (inr (slash, inl (is, same))) = absurd (slash_no_star prefix slash is)
slash_once prefix (inr (slash, inr (ns, closed, named, is))) =
    let are : All IsName ns = Leaves-names _ ns named.leaves in
    let front : without_slash prefix ≡ joined ns = ap without_slash is ∙ bare ns closed are in
    ap without_slash front ∙ names_alone ns are ∙ sym front

-- ---- a path that was cut has the prefix that it was cut after

pub cut_prefix : {q bytes : List ℕ} {p : PathText} → IsCut q bytes p → p.prefix ≡ q
cut_prefix (at_start empty is) = ap (λ (x : PathText). x.prefix) is ∙ sym empty
cut_prefix (at_slash whole is) = ap (λ (x : PathText). x.prefix) is
cut_prefix (at_end some whole is) = ap (λ (x : PathText). x.prefix) is

pub own_prefix : {prefix own : List ℕ} {method : DavMethod} {p : PathText} → own ≢ star → TargetNames prefix method own (Ok p) → p.prefix ≡ without_slash prefix
own_prefix other (server is options) = absurd (other is)
own_prefix other (path has reads cut) = cut_prefix cut

-- ---- what Destination names is what the target would name

module _ (prefix : List ℕ) (other : DavMethod) (text : List ℕ) (slash : BeginsWithSlash text) where
  itself : HasPathText text text
  itself = inl (slash, refl)

  refused_target : (e : ParseError) → IsRefused text e → e ≢ parse.Memory → TargetNames prefix other text (Err (path_error e))
  refused_target parse.InvalidPath refused real = unreadable (slash_no_star text slash) (invalid itself refused)
  refused_target parse.ForbiddenPath refused real = unreadable (slash_no_star text slash) (climbing itself refused)
  refused_target parse.PrefixMismatch refused real = absurd refused
  refused_target parse.Memory refused real = absurd (real refl)

  is_text : (values : List FieldValue) → only_text values ≡ Some text → IsDestination values text
  is_text values is = subst (λ (o : Option (List ℕ)). IsSomeAnd o (λ t. IsDestinationText t text)) (sym is) (inl (slash.0, slash.1, refl))

  as_target : {values : List FieldValue} {q : List ℕ} {b : Result PathText DavError} → only_text values ≡ Some text → without_slash q ≡ without_slash prefix → DestinationNames q values b → TargetNames prefix other text b
  as_target {values} is front (copying.absent none) = absurd (none text (is_text values is))
  as_target {values} is front (copying.unreadable t {e} found refused real) =
      refused_target e (subst (λ (x : List ℕ). IsRefused x e) (one_destination values t text found (is_text values is)) refused) real
  as_target {values} is front (copying.outside t bytes found reads cut) =
      outside itself (subst (λ (x : List ℕ). Reads x bytes) (one_destination values t text found (is_text values is)) reads) (subst (λ (x : List ℕ). HasNoCut x bytes) front cut)
  as_target {values} is front (copying.inside t bytes {d} found reads cut) =
      path itself (subst (λ (x : List ℕ). Reads x bytes) (one_destination values t text found (is_text values is)) reads) (subst (λ (x : List ℕ). IsCut x bytes d) front cut)

pub one_text_one_path : OneTextOnePath
one_text_one_path prefix fits method other own text p values a b apart named slash is target destination =
    let front : without_slash p.prefix ≡ without_slash prefix = ap without_slash (own_prefix apart named) ∙ slash_once prefix fits in
    one_outcome prefix other text a b target (as_target prefix other text slash is front destination)
