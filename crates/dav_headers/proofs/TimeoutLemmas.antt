-- The TimeTypes of a Timeout, one after another.
use Rattle.std.proofs.Common.{◌≡◌, ◌≢◌, ℕ, ◌<◌, ◌^◌, sym, ◌∙◌, List, [], ◌∷◌, ◌++◌, Option, Some, None, map, refl, subst, true, false}
use Rattle.std.specs.Option.{is_none}
use Rattle.std.specs.Iterator.{Yields}
use Rattle.std.proofs.lemmas.Iterator.{YieldsList}
use Rattle.std.proofs.lemmas.List.{append_cancel_left}
use Rattle.dav_headers.specs.Value.{Decodes, IsNumber}
use Rattle.std.specs.Prelude.{codes, decimal}
use Rattle.std.specs.List.{flat_map, list_all}
use Rattle.std.proofs.lemmas.List.Sums.{AllPass-from_list_all}
use Rattle.http_header.specs.FieldValue.{IsVisibleAscii}
use Rattle.http_header.specs.Token.{is_visible_or_blank}
use Rattle.dav_headers.specs.Timeout.{AreTimeTypes, IsTimeType, time_type_text, timeout_text}
use Rattle.dav_headers.specs.declared.timeout.DavTimeout.{DavTimeout}
use Rattle.dav_headers.specs.declared.timeout.DavTimeout.TheVariants.{Seconds, Infinite}
use Rattle.dav_headers.proofs.NumberLemmas.{decimal_visible}
use Rattle.dav_headers.proofs.LoopLemmas.{turn_mapped}
use Rattle.dav_headers.proofs.RangeLemmas.{both}

-- a text that begins with neither form
pub no_time_type : (element : List ℕ) → element ≢ codes "Infinite" → ((digits : List ℕ) → element ≢ codes "Second-" ++ digits) → (w : DavTimeout) → ¬ IsTimeType element w
no_time_type element other none (Seconds n) (digits, e, number, small) = none digits e
no_time_type element other none Infinite e = other e

-- a text that goes on with no number below 2^32
pub no_seconds : (element rest : List ℕ) → element ≢ codes "Infinite" → element ≡ codes "Second-" ++ rest → ((n : ℕ) → IsNumber rest n → ¬ n < 2 ^ 32) → (w : DavTimeout) → ¬ IsTimeType element w
no_seconds element rest other e none (Seconds n) (digits, f, number, small) =
    let same = append_cancel_left (codes "Second-") rest digits (sym e ∙ f) in
    none n (subst (λ t. IsNumber t n) (sym same) number) small
no_seconds element rest other e none Infinite f = other f

-- one more TimeType
pub AreTimeTypes-push : (ps : List (List ℕ)) (ws : List DavTimeout) (p : List ℕ) (w : DavTimeout) → AreTimeTypes ps ws → IsTimeType p w → AreTimeTypes (ps ++ p ∷ []) (ws ++ w ∷ [])
AreTimeTypes-push [] [] p w h k = (k, tt)
AreTimeTypes-push [] (v ∷ ws) p w h k = absurd h
AreTimeTypes-push (q ∷ ps) [] p w h k = absurd h
AreTimeTypes-push (q ∷ ps) (v ∷ ws) p w h k = (h.0, AreTimeTypes-push ps ws p w h.1 k)

-- a list element that isn't a TimeType
no_time_types : (ps : List (List ℕ)) (p : List ℕ) (qs : List (List ℕ)) → ((w : DavTimeout) → ¬ IsTimeType p w) → (ws : List DavTimeout) → ¬ AreTimeTypes (ps ++ p ∷ qs) ws
no_time_types [] p qs none [] h = h
no_time_types [] p qs none (w ∷ ws) h = none w h.0
no_time_types (q ∷ ps) p qs none [] h = h
no_time_types (q ∷ ps) p qs none (w ∷ ws) h = no_time_types ps p qs none ws h.1

pub no_time_types-turn : {S A : Type 0} {steps : S → Option A → S → Type 0} {v : A → List ℕ} {s : S} {all : List (List ℕ)} (f : List ℕ → List ℕ) (xs : List A) (t : S) (y : Yields steps s xs t) (e : YieldsList steps v s all) → (r : Option A) (u : S) (x : A) → r ≡ Some x → steps t r u → ((w : DavTimeout) → ¬ IsTimeType (f (v x)) w) → (ws : List DavTimeout) → ¬ AreTimeTypes (map f all) ws
no_time_types-turn {v = v} f xs t y e r u x is step none ws h =
    let (rest, parts) = turn_mapped f xs t y e r u x is step in
    no_time_types (map f (map v xs)) (f (v x)) rest none ws (subst (λ ps. AreTimeTypes ps ws) parts h)

-- a list element that is tested
pub none_read : (p : List ℕ) (o : Option DavTimeout) → Decodes IsTimeType p o → is_none o ≡ true → (w : DavTimeout) → ¬ IsTimeType p w
none_read p None h e = h
none_read p (Some w) h e = absurd (cc)

pub one_read : (p : List ℕ) (o : Option DavTimeout) → Decodes IsTimeType p o → is_none o ≡ false → (w : DavTimeout) × IsTimeType p w
one_read p None h e = absurd (cc)
one_read p (Some w) h e = (w, h)

time_type_shown : (w : DavTimeout) → list_all is_visible_or_blank (time_type_text w) ≡ true
time_type_shown (Seconds n) = both (codes "Second-") (decimal n) refl (decimal_visible n)
time_type_shown Infinite = refl

rest_shown : (ws : List DavTimeout) → list_all is_visible_or_blank (flat_map (λ y. 44 ∷ 32 ∷ y) (map time_type_text ws)) ≡ true
rest_shown [] = refl
rest_shown (w ∷ ws) =
    both (44 ∷ 32 ∷ time_type_text w) (flat_map (λ y. 44 ∷ 32 ∷ y) (map time_type_text ws))
    (both (44 ∷ 32 ∷ []) (time_type_text w) refl (time_type_shown w)) (rest_shown ws)

pub shown : (ws : List DavTimeout) → list_all is_visible_or_blank (timeout_text ws) ≡ true
shown [] = refl
shown (w ∷ ws) = both (time_type_text w) (flat_map (λ y. 44 ∷ 32 ∷ y) (map time_type_text ws)) (time_type_shown w) (rest_shown ws)

-- the text of TimeTypes is text
pub timeout_visible : (ws : List DavTimeout) → IsVisibleAscii (timeout_text ws)
timeout_visible ws = AllPass-from_list_all is_visible_or_blank (timeout_text ws) (shown ws)
