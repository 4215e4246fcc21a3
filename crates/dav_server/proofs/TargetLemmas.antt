-- Targets: the text that is to name a path, and what it results in.
use Rattle.std.proofs.Common.{rules, arith, length, ◌∷◌, ◌≡◌, ◌≢◌, ◌⊎◌, ℕ, zero, suc, Bool, IsTrue, take, slice_index, List, [], Contains, Option, Some, None, Result, Ok, Err, ◌||◌, not, is_some, if◌then◌else◌, refl, sym, ap, ap₂, subst, ◌∙◌, inl, inr}
use Rattle.http_uri.specs.declared.uri.Uri.{Uri}
use Rattle.http_uri.specs.Grammar.{IsUriText, IsTail, or_slash}
use Rattle.http_uri.specs.ByteClasses.{is_delimiter, index_of, hash_sign}
use Rattle.http_uri.specs.Uri.{Spells, SpellsNone, uri_scheme, uri_authority, uri_data, uri_path_and_query}
use Rattle.http_uri.proofs.Theorems.{Spells_unique}
use Rattle.dav_core.specs.declared.errors.DavError.{DavError}
use Rattle.dav_core.specs.declared.errors.DavError.TheVariants as dav
use Rattle.dav_core.specs.declared.method.DavMethod.{DavMethod}
use Rattle.dav_core.specs.declared.method.DavMethod.TheVariants.{Options}
use Rattle.dav_core.specs.Path.{Path, star, PathText, path_bytes, full_bytes, IsCut, at_start, at_slash, at_end, HasNoCut, without_slash}
use Rattle.dav_core.specs.declared.errors.ParseError.TheVariants as parse
use Rattle.dav_core.specs.Target.{Reads, IsRefused}
use Rattle.dav_core.proofs.Theorems.{one_cut, Reads-one, Reads-valid, Reads-allowed, refused_once}
use Rattle.http_uri.proofs.UriLemmas.{cut_long}
use Rattle.dav_server.specs.Target.{BeginsWithSlash, HasPathText, IsUnreadable, formless, invalid, climbing, TargetNames, server, reserved, unreadable, outside, path, OneOutcome}
use Rattle.dav_server.specs.TargetCode.{GivesPath, GivesRead, GivesNamed, GivesCut, GivesTail}

-- a URI with these parts
uri_of : (scheme authority behind : List ℕ) → Uri
uri_of scheme authority behind = record {
  scheme = Some scheme;
  authority = Some authority;
  path_and_query = behind;
  absolute = search rules;
  authority_alone = search rules;
}

-- a URI has the parts that its text has
parts_of : (target scheme authority behind : List ℕ) (uri : Uri) → Spells target uri → IsUriText target (Some scheme) (Some authority) behind → (uri_scheme uri ≡ Some scheme) × (uri_authority uri ≡ Some authority) × (uri_data uri ≡ behind)
unfolding uri_of
parts_of target scheme authority behind uri spelled form =
    Spells_unique target uri (uri_of scheme authority behind) spelled form

-- with a `#` a target that doesn't begin with a slash has no form
pub fragment_formless : (target : List ℕ) → ¬ BeginsWithSlash target → Contains target 35 → (text : List ℕ) → ¬ HasPathText target text
fragment_formless target bare has text = elim [ inl h ↦ bare h.0 | inr h ↦ h.1.0 has ]

-- nor has one that is no URI
pub unspelled_formless : (target : List ℕ) → ¬ BeginsWithSlash target → SpellsNone target → (text : List ℕ) → ¬ HasPathText target text
unspelled_formless target bare none text =
    elim [ inl h ↦ bare h.0 | inr h ↦ none (Some h.1.1) (Some h.1.2) h.1.3 h.1.4 ]

-- nor one that is a URI without a scheme or an authority
pub partial_formless : (target : List ℕ) (uri : Uri) → ¬ BeginsWithSlash target → Spells target uri → GivesTail uri None → (text : List ℕ) → ¬ HasPathText target text
partial_formless target uri bare spelled none text =
    elim [
      | inl h ↦ bare h.0
      | inr h ↦
          let parts = parts_of target h.1.1 h.1.2 h.1.3 uri spelled h.1.4 in
          none h.1.1 h.1.2 parts.0 parts.1
    ]

-- a text that spells parts spells them as they are
spells_both : (target : List ℕ) (a b : Option (List ℕ)) (scheme authority behind : List ℕ) → a ≡ Some scheme → b ≡ Some authority → IsUriText target a b behind → IsUriText target (Some scheme) (Some authority) behind
spells_both target a b scheme authority behind is has spelled =
    subst (λ (y : Option (List ℕ)). IsUriText target (Some scheme) y behind) has
    (subst (λ (x : Option (List ℕ)). IsUriText target x b behind) is spelled)

-- a URI with both has the text after its authority
pub absolute_text : (target text : List ℕ) (uri : Uri) → ¬ BeginsWithSlash target → ¬ Contains target 35 → Spells target uri → GivesTail uri (Some text) → HasPathText target text
absolute_text target text uri bare clean spelled (scheme, authority, is, has, same) =
    inr (bare, (clean, scheme, authority, uri_data uri, spells_both target _ _ scheme authority _ is has spelled, same))

-- the path and query of a URI with a scheme are the data that it keeps
pub shown_data : (uri : Uri) (scheme shown : List ℕ) → uri_scheme uri ≡ Some scheme → Some shown ≡ uri_path_and_query uri → shown ≡ uri_data uri
shown_data uri scheme shown is has =
    let kept : uri_path_and_query uri ≡ Some (uri_data uri) = ap (λ (x : Option (List ℕ)). if is_some x || not (is_some (uri_authority uri)) then Some (uri_data uri) else None) is in
    cc

-- a text that begins with a slash isn't `*`
slash_not_star : (target rest : List ℕ) → target ≡ 47 ∷ rest → target ≢ star
slash_not_star target rest slash is = cc

-- `*` is read as itself
star_read : (target bytes : List ℕ) → target ≡ star → Reads target bytes → bytes ≡ star
star_read target bytes is reads =
    elim reads [ inl h ↦ h.1 | inr h ↦ absurd (slash_not_star target h.2.rooted.rooted.0 h.2.rooted.rooted.1 is) ]

-- and so names the server, for OPTIONS
pub server_named : (prefix : List ℕ) (method : DavMethod) (target : List ℕ) (r : Result PathText DavError) → target ≡ star → method ≡ Options → GivesNamed target r → GivesPath prefix method target r
server_named prefix method target (Ok p) is options given =
    let path : List ℕ → List ℕ → PathText = λ prefix bytes. record { prefix = prefix; bytes = bytes } in
    subst (λ (x : PathText). TargetNames prefix method target (Ok x)) (sym (ap₂ path given.0 (star_read target p.bytes is given.1))) (server is options)
server_named prefix method target (Err e) is options given =
    elim given [
      | inl memory ↦ inl memory
      | inr why ↦
          elim why [
            | inl bad ↦ absurd (bad.1.0 is)
            | inr climbs ↦ absurd (slash_not_star target climbs.1.0.rooted.0 climbs.1.0.rooted.1 is)
          ]
    ]

-- what the text in a target results in is what is read in the target
pub read_named : (target text : List ℕ) (r : Result PathText DavError) → HasPathText target text → GivesNamed text r → GivesRead target r
read_named target text (Ok p) has is = (is.0, text, has, is.1)
read_named target text (Err e) has (inl memory) = inl memory
read_named target text (Err e) has (inr (inl bad)) = inr (subst (IsUnreadable target) (sym bad.0) (invalid has bad.1))
read_named target text (Err e) has (inr (inr climbs)) = inr (subst (IsUnreadable target) (sym climbs.0) (climbing has climbs.1))

-- and the path after the prefix is what the target names
pub names_cut : (prefix : List ℕ) (method : DavMethod) (target : List ℕ) (p : PathText) (r : Result PathText DavError) → GivesRead target (Ok p) → GivesCut (without_slash prefix) (full_bytes p) r → GivesPath prefix method target r
names_cut prefix method target p (Ok q) (bare, text, has, reads) is = path has reads (rw bare at is)
names_cut prefix method target p (Err e) (bare, text, has, reads) (inl memory) = inl memory
names_cut prefix method target p (Err e) (bare, text, has, reads) (inr none) =
    inr (subst (λ (x : DavError). TargetNames prefix method target (Err x)) (sym none.0) (outside has reads (rw bare at none.1)))

-- a target has one text at most
one_text : (target a b : List ℕ) → HasPathText target a → HasPathText target b → a ≡ b
unfolding uri_of
one_text target a b (inl (_, is)) (inl (_, also)) = is ∙ sym also
one_text target a b (inl (slash, _)) (inr (bare, _)) = absurd (bare slash)
one_text target a b (inr (bare, _)) (inl (slash, _)) = absurd (bare slash)
one_text target a b (inr (_, (_, s, t, behind, form, is))) (inr (_, (_, other, authority, end, also, same))) =
    is ∙ ap or_slash (Spells_unique target (uri_of s t behind) (uri_of other authority end) form also).2 ∙ sym same

-- `*` has none
star_formless : (target text : List ℕ) → target ≡ star → ¬ HasPathText target text
star_formless target text is has =
    elim has [
      | inl h ↦ slash_not_star target h.0.0 h.0.1 is
      | inr h ↦ omega (arith, ap length is, cut_long target h.1.1 h.1.2 h.1.3 h.1.4.1)
    ]

-- a target that is read isn't unreadable
read_once : (target text bytes : List ℕ) (e : DavError) → HasPathText target text → Reads text bytes → ¬ IsUnreadable target e
read_once target text bytes _ has reads (formless none) = none text has
read_once target text bytes _ has reads (invalid {text = other} also bad) =
    Reads-valid text bytes reads (subst (λ (x : List ℕ). IsRefused x parse.InvalidPath) (one_text target other text also has) bad)
read_once target text bytes _ has reads (climbing {text = other} also climbs) =
    Reads-allowed text bytes reads (subst (λ (x : List ℕ). IsRefused x parse.ForbiddenPath) (one_text target other text also has) climbs)

-- and it is unreadable in one way
unreadable_once : (target : List ℕ) (a b : DavError) → IsUnreadable target a → IsUnreadable target b → a ≡ b
unreadable_once target _ _ (formless none) (formless _) = refl
unreadable_once target _ _ (formless none) (invalid {text} has _) = absurd (none text has)
unreadable_once target _ _ (formless none) (climbing {text} has _) = absurd (none text has)
unreadable_once target _ _ (invalid {text} has _) (formless none) = absurd (none text has)
unreadable_once target _ _ (invalid _ _) (invalid _ _) = refl
unreadable_once target _ _ (invalid {text} has bad) (climbing {text = other} also climbs) =
    absurd (refused_once text bad (subst (λ (x : List ℕ). IsRefused x parse.ForbiddenPath) (one_text target other text also has) climbs))
unreadable_once target _ _ (climbing {text} has _) (formless none) = absurd (none text has)
unreadable_once target _ _ (climbing {text} has climbs) (invalid {text = other} also bad) =
    absurd (refused_once other bad (subst (λ (x : List ℕ). IsRefused x parse.ForbiddenPath) (one_text target text other has also) climbs))
unreadable_once target _ _ (climbing _ _) (climbing _ _) = refl

-- what `*` results in
at_star : (prefix : List ℕ) (method : DavMethod) (target : List ℕ) (b : Result PathText DavError) → target ≡ star → TargetNames prefix method target b → ((method ≡ Options) × (b ≡ Ok (record { prefix = []; bytes = star }))) ⊎ ((method ≢ Options) × (b ≡ Err (dav.Status 400)))
at_star prefix method target _ is (server _ options) = inl (options, refl)
at_star prefix method target _ is (reserved _ other) = inr (other, refl)
at_star prefix method target _ is (unreadable apart _) = absurd (apart is)
at_star prefix method target _ is (outside {text} has _ _) = absurd (star_formless target text is has)
at_star prefix method target _ is (path {text} has _ _) = absurd (star_formless target text is has)

-- what an unreadable target results in
when_unreadable : (prefix : List ℕ) (method : DavMethod) (target : List ℕ) (e : DavError) (b : Result PathText DavError) → target ≢ star → IsUnreadable target e → TargetNames prefix method target b → b ≡ Err e
when_unreadable prefix method target e _ apart why (server is _) = absurd (apart is)
when_unreadable prefix method target e _ apart why (reserved is _) = absurd (apart is)
when_unreadable prefix method target e _ apart why (unreadable {e = other} _ also) = ap Err (unreadable_once target other e also why)
when_unreadable prefix method target e _ apart why (outside {text} {bytes} has reads _) = absurd (read_once target text bytes e has reads why)
when_unreadable prefix method target e _ apart why (path {text} {bytes} has reads _) = absurd (read_once target text bytes e has reads why)

-- what a target that is read results in: the path cut after the prefix, where there is one
CutOutcome : List ℕ → List ℕ → Result PathText DavError → Type 0
CutOutcome prefix bytes (Ok p) = IsCut prefix bytes p
CutOutcome prefix bytes (Err e) = (e ≡ dav.IllegalPath) × HasNoCut prefix bytes

when_read : (prefix : List ℕ) (method : DavMethod) (target text bytes : List ℕ) (b : Result PathText DavError) → HasPathText target text → Reads text bytes → TargetNames prefix method target b → CutOutcome (without_slash prefix) bytes b
unfolding CutOutcome
when_read prefix method target text bytes _ has reads (server is _) = absurd (star_formless target text is has)
when_read prefix method target text bytes _ has reads (reserved is _) = absurd (star_formless target text is has)
when_read prefix method target text bytes _ has reads (unreadable {e} _ why) = absurd (read_once target text bytes e has reads why)
when_read prefix method target text bytes _ has reads (outside {text = other} {bytes = found} also read cut) =
    let same = Reads-one text bytes found reads (subst (λ (x : List ℕ). Reads x found) (one_text target other text also has) read) in
    (refl, subst (HasNoCut (without_slash prefix)) (sym same) cut)
when_read prefix method target text bytes _ has reads (path {text = other} {bytes = found} {p} also read cut) =
    let same = Reads-one text bytes found reads (subst (λ (x : List ℕ). Reads x found) (one_text target other text also has) read) in
    subst (λ (x : List ℕ). IsCut (without_slash prefix) x p) (sym same) cut

-- a path is cut in one way, or in none
cut_once : (prefix bytes : List ℕ) (a b : Result PathText DavError) → CutOutcome prefix bytes a → CutOutcome prefix bytes b → a ≡ b
unfolding CutOutcome
cut_once prefix bytes (Ok p) (Ok q) h k = ap Ok (one_cut prefix bytes p q h k)
cut_once prefix bytes (Ok p) (Err e) h k = absurd (k.1 p h)
cut_once prefix bytes (Err e) (Ok q) h k = absurd (h.1 q k)
cut_once prefix bytes (Err e) (Err f) h k = ap Err (h.0 ∙ sym k.0)

-- a target results in one outcome
pub one_outcome : OneOutcome
unfolding CutOutcome
one_outcome prefix method target _ b (server is options) also =
    elim (at_star prefix method target b is also) [ inl s ↦ sym s.1 | inr r ↦ absurd (r.0 options) ]
one_outcome prefix method target _ b (reserved is other) also =
    elim (at_star prefix method target b is also) [ inl s ↦ absurd (other s.0) | inr r ↦ sym r.1 ]
one_outcome prefix method target _ b (unreadable {e} apart why) also = sym (when_unreadable prefix method target e b apart why also)
one_outcome prefix method target _ b (outside {text} {bytes} has reads cut) also =
    cut_once (without_slash prefix) bytes (Err dav.IllegalPath) b (refl, cut) (when_read prefix method target text bytes b has reads also)
one_outcome prefix method target _ b (path {text} {bytes} {p} has reads cut) also =
    cut_once (without_slash prefix) bytes (Ok p) b cut (when_read prefix method target text bytes b has reads also)

-- ---- only OPTIONS is for the server itself

slash_no_star : (rest : List ℕ) → 47 ∷ rest ≢ star
slash_no_star rest e = let same : ◌≡◌ {A = ℕ} 47 42 = cc in absurd (omega (arith, same))

pub path_no_star : (ns : Path) (closed : Bool) → path_bytes ns closed ≢ star
path_no_star [] closed e = slash_no_star [] e
path_no_star (n ∷ ns) closed e = slash_no_star _ e

-- a first byte that ends an authority isn't `*`
front_no_star : (k : ℕ) (tail : List ℕ) → IsTrue (is_delimiter (slice_index tail 0)) → or_slash (take k tail) ≢ star
front_no_star zero tail delimits e = slash_no_star [] e
front_no_star (suc k) [] delimits e = slash_no_star [] e
front_no_star (suc k) (b ∷ tail) delimits e = grind (rules, arith, delimits, e)

-- what follows an authority isn't `*`
tail_no_star : (tail behind : List ℕ) → IsTail tail behind → or_slash behind ≢ star
tail_no_star tail behind (inl (empty, is)) e = slash_no_star [] (ap or_slash (sym is) ∙ e)
tail_no_star tail behind (inr (delimits, input, is)) e = front_no_star (index_of hash_sign tail) tail delimits (ap or_slash (sym is) ∙ e)

pub text_no_star : (target text : List ℕ) → HasPathText target text → text ≢ star
text_no_star target text (inl ((rest, slash), is)) e = slash_no_star rest (sym slash ∙ sym is ∙ e)
text_no_star target text (inr (bare, (clean, scheme, authority, behind, form, is))) e = tail_no_star form.1.tail behind form.1.is_tail (sym is ∙ e)

-- what is left of a path behind a prefix is a path
cut_no_star : (prefix : List ℕ) (ns : Path) (closed : Bool) (p : PathText) → IsCut prefix (path_bytes ns closed) p → p.bytes ≢ star
cut_no_star prefix ns closed p (at_start empty is) e = path_no_star ns closed (sym (ap (λ (q : PathText). q.bytes) is) ∙ e)
cut_no_star prefix ns closed p (at_slash {rest} whole is) e = slash_no_star rest (sym (ap (λ (q : PathText). q.bytes) is) ∙ e)
cut_no_star prefix ns closed p (at_end some whole is) e = slash_no_star [] (sym (ap (λ (q : PathText). q.bytes) is) ∙ e)

read_no_star : (prefix text bytes : List ℕ) (p : PathText) → text ≢ star → Reads text bytes → IsCut prefix bytes p → p.bytes ≢ star
read_no_star prefix text bytes p other (inl (is, star_is)) cut = absurd (other is)
read_no_star prefix text bytes p other (inr (ns, closed, named, is)) cut = cut_no_star prefix ns closed p (subst (λ (b : List ℕ). IsCut prefix b p) is cut)

-- the target of any other method names a path
pub target_is_path : {prefix target : List ℕ} {m : DavMethod} {p : PathText} → TargetNames prefix m target (Ok p) → m ≢ Options → p.bytes ≢ star
target_is_path (server is options) other = absurd (other options)
target_is_path {prefix} {target} (path {text} {bytes} {p} has reads cut) other = read_no_star (without_slash prefix) text bytes p (text_no_star target text has) reads cut
