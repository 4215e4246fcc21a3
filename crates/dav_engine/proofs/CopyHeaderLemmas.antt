-- What Destination names, and what kind of path that is.
use Rattle.std.proofs.Common.{◌≡◌, ◌≢◌, inl, inr, ℕ, ◌==◌, ◌<◌, ◌++◌, Bool, true, false, List, [], ◌∷◌, All, Option, Some, None, Result, Ok, Err, cond, arith, refl, sym, ap, subst, ◌∙◌}
use Rattle.std.proofs.lemmas.Bool.{eqb-true}
use Rattle.std.proofs.lemmas.List.Elements.{All-tail}
use Rattle.std.specs.Prelude.{IfOk, IsSomeAnd}
use Rattle.http_header.specs.FieldValue.{FieldValue}
use Rattle.dav_core.specs.declared.errors.DavError.{DavError}
use Rattle.dav_core.specs.declared.errors.DavError.TheVariants as dav
use Rattle.dav_core.specs.declared.errors.ParseError.{ParseError}
use Rattle.dav_core.specs.declared.errors.ParseError.TheVariants as parse
use Rattle.dav_core.specs.CallLaws.{IsStorable}
use Rattle.dav_core.specs.Path.{Path, PathText, IsName, names, names_of, full_bytes, path_bytes, star, IsCut, HasNoCut, without_slash}
use Rattle.dav_core.specs.PathRef.{IsCutRefused}
use Rattle.dav_core.specs.Status.{path_error}
use Rattle.dav_core.specs.Target.{Reads}
use Rattle.dav_core.proofs.Theorems.{cut_keeps_names, names_kept, Leaves-names, Reads-bytes}
use Rattle.dav_headers.specs.Destination.{IsDestination, IsDestinationText, from_slash}
use Rattle.dav_headers.specs.Value.{Decodes, only_text}
use Rattle.dav_engine.specs.Copied.{IsPlain}
use Rattle.dav_engine.specs.CopyMove.{DestinationNames, absent, unreadable, outside, inside}
use Rattle.dav_engine.specs.CopyView.{NamesBelow, NamesNoneBelow}

-- ---- a text that names a path below the prefix, or none

pub below_named : (prefix text : List ℕ) (p q : PathText) → p.prefix ≡ [] → Reads text p.bytes → IsCut (without_slash prefix) (full_bytes p) q → NamesBelow prefix text q
below_named prefix text p q bare reads cut = (p.bytes, reads, subst (λ (x : List ℕ). IsCut (without_slash prefix) x q) (ap (λ x. x ++ p.bytes) bare) cut)

pub below_refused : (prefix text : List ℕ) (p : PathText) (e : ParseError) → p.prefix ≡ [] → Reads text p.bytes → IsCutRefused (without_slash prefix) (full_bytes p) e → NamesNoneBelow prefix text e
below_refused prefix text p parse.InvalidPath bare reads refused = absurd refused
below_refused prefix text p parse.PrefixMismatch bare reads refused =
    inr (inr (refl, p.bytes, reads, subst (λ (x : List ℕ). HasNoCut (without_slash prefix) x) (ap (λ x. x ++ p.bytes) bare) refused))
below_refused prefix text p parse.ForbiddenPath bare reads refused = absurd refused
below_refused prefix text p parse.Memory bare reads refused = inl refl

-- ---- what Destination names

pub destination_absent : (prefix : List ℕ) (values : List FieldValue) (text : Option (List ℕ)) → text ≡ None → Decodes IsDestination values text → DestinationNames prefix values (Err (dav.Status 400))
destination_absent prefix values text none said = absent (subst (λ (t : Option (List ℕ)). Decodes IsDestination values t) none said)

pub destination_inside : (prefix : List ℕ) (values : List FieldValue) (said : Option (List ℕ)) (text : List ℕ) (d : PathText) → said ≡ Some text → Decodes IsDestination values said → NamesBelow prefix text d → DestinationNames prefix values (Ok d)
destination_inside prefix values said text d some is (bytes, reads, cut) = inside text bytes (subst (λ (t : Option (List ℕ)). Decodes IsDestination values t) some is) reads cut

none_below : (prefix : List ℕ) (values : List FieldValue) (text : List ℕ) (e : ParseError) → IsDestination values text → NamesNoneBelow prefix text e → e ≢ parse.Memory → DestinationNames prefix values (Err (path_error e))
none_below prefix values text e is (inl memory) other = absurd (other memory)
none_below prefix values text e is (inr (inl (refused, kept))) other = unreadable text is refused other
none_below prefix values text e is (inr (inr (mismatch, bytes, reads, none))) other =
    subst (λ (x : ParseError). DestinationNames prefix values (Err (path_error x))) (sym mismatch) (outside text bytes is reads none)

pub destination_refused : {E : Type 0} (prefix : List ℕ) (values : List FieldValue) (said : Option (List ℕ)) (text : List ℕ) (e : ParseError) (r : Result (Result PathText DavError) E) → said ≡ Some text → Decodes IsDestination values said
    → NamesNoneBelow prefix text e → IfOk r (λ d. (d ≡ Err (path_error e)) × (e ≢ parse.Memory)) → IfOk r (λ d. DestinationNames prefix values d)
destination_refused prefix values said text e (Ok d) some is none (same, other) =
    subst (λ (x : Result PathText DavError). DestinationNames prefix values x) (sym same) (none_below prefix values text e (subst (λ (t : Option (List ℕ)). Decodes IsDestination values t) some is) none other)
destination_refused prefix values said text e (Err x) some is none why = tt

-- ---- it is a path of names

all_back : {X : Type 0} (P : X → Type 0) (xs ys : List X) → All P (xs ++ ys) → All P ys
all_back P [] ys h = h
all_back P (x ∷ xs) ys h = all_back P xs ys (All-tail P x (xs ++ ys) h)

-- plain, and one at which a node may be
pub record IsPlace (d : PathText) : Type 0 where
  pub plain : IsPlain d
  pub storable : IsStorable (names d)

pub place_cut : (text bytes q : List ℕ) (d : PathText) → text ≢ star → Reads text bytes → IsCut q bytes d → IsPlace d
place_cut text bytes q d other (inl (is, same)) cut = absurd (other is)
place_cut text bytes q d other (inr (ns, end, named, is)) cut =
    let are : All IsName ns = Leaves-names _ ns named.leaves in
    let small : All (All (λ b. b < 256)) ns = subst (All (All (λ b. b < 256))) (ap names_of is ∙ names_kept ns end are) (Reads-bytes text bytes (inr (ns, end, named, is))) in
    let (rest, last, split, behind) = cut_keeps_names ns end q d are (subst (λ (b : List ℕ). IsCut q b d) is cut) in
    let kept : All IsName rest = all_back IsName (names_of q) rest (subst (All IsName) split are) in
    let below : All (All (λ b. b < 256)) rest = all_back (All (λ b. b < 256)) (names_of q) rest (subst (All (All (λ b. b < 256))) split small) in
    let path : names d ≡ rest = ap names_of behind ∙ names_kept rest last kept in
    record {
      plain = record { are_names = subst (All IsName) (sym path) kept; is_closed = last; bytes_are = behind ∙ ap (λ (ms : Path). path_bytes ms last) (sym path) };
      storable = subst IsStorable (sym path) (kept, below);
    }

slash_first : (b : ℕ) (bs : List ℕ) (c : Bool) (more : List ℕ) → (b == 47) ≡ c → more ≢ star → cond c (b ∷ bs) more ≢ star
slash_first b bs true more is other e =
    let first : b ≡ 42 = cc in
    let slash : b ≡ 47 = eqb-true b 47 is in
    absurd (omega (arith, first, slash))
slash_first b bs false more is other e = other e

from_slash_other : (text : List ℕ) → from_slash text ≢ star
from_slash_other [] e = let same : ◌≡◌ {A = ℕ} 47 42 = cc in absurd (omega (arith, same))
from_slash_other (b ∷ bs) e = slash_first b bs (b == 47) (from_slash bs) refl (from_slash_other bs) e

text_other : (value text : List ℕ) → IsDestinationText value text → text ≢ star
text_other value text (inl (rest, is, same)) e =
    let whole : 47 ∷ rest ≡ 42 ∷ [] = sym is ∙ sym same ∙ e in
    let first : ◌≡◌ {A = ℕ} 47 42 = cc in
    absurd (omega (arith, first))
text_other value text (inr (scheme, behind, http, is, same)) e = from_slash_other behind (sym same ∙ e)

value_other : (o : Option (List ℕ)) (text : List ℕ) → IsSomeAnd o (λ value. IsDestinationText value text) → text ≢ star
value_other None text h = absurd h
value_other (Some value) text h = text_other value text h

pub place_by : {prefix : List ℕ} {values : List FieldValue} {r : Result PathText DavError} (d : PathText) → DestinationNames prefix values r → r ≡ Ok d → IsPlace d
place_by d (absent none) h = cc
place_by d (unreadable text is refused other) h = cc
place_by d (outside text bytes is reads cut) h = cc
place_by {prefix} {values} d (inside text bytes {d = place} is reads cut) h =
    let same : place ≡ d = cc in
    subst IsPlace same (place_cut text bytes (without_slash prefix) place (value_other (only_text values) text is) reads cut)

path_other : (ns : Path) (closed : Bool) → path_bytes ns closed ≢ star
path_other [] closed e = let same : ◌≡◌ {A = ℕ} 47 42 = cc in absurd (omega (arith, same))
path_other (n ∷ ns) closed e = let same : ◌≡◌ {A = ℕ} 47 42 = cc in absurd (omega (arith, same))

-- a plain path is no star path
pub plain_other : (d : PathText) → IsPlain d → d.bytes ≢ star
plain_other d plain e = path_other (names d) plain.is_closed (sym plain.bytes_are ∙ e)
