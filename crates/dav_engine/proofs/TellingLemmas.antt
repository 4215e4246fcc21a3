-- How what is told is found and listed.
use Rattle.std.proofs.Common.{◌≡◌, ℕ, ◌==◌, Bool, true, false, not, List, [], ◌∷◌, ◌++◌, map, codes, refl, sym, ap, ◌∙◌, append_assoc, ◌-◌, ◌^◌, length, replicate, arith, subst}
use Rattle.std.specs.Prelude.{Option, Some, option_map, IfSome}
use Rattle.std.specs.Fmt.{char_count, format_spec, padded_integral}
use Rattle.std.specs.List.{filter, list_any, starts_with}
use Rattle.std.proofs.lemmas.List.Elements.{filter-append}
use Rattle.std.proofs.lemmas.List.{append-nil}
use Rattle.dav_core.specs.Element.{ElementTree, with_child}
use Rattle.dav_engine.specs.Multistatus.{dav_element}
use Rattle.dav_engine.specs.Properties.{Telling, Here, holds, is_same_property, listed_properties, wanted_properties, padded, asked_property, dav_space, apache_space, microsoft_space, common_properties, named_properties, windows_names, windows_properties, resource_type}

-- a text that begins with another holds it
pub starts_holds : (text needle : List ℕ) → true ≡ starts_with ◌==◌ text needle → true ≡ holds text needle
starts_holds [] [] is = refl
starts_holds [] (n ∷ needle) is = is
starts_holds (b ∷ bs) needle is = rw (sym is) refl

pub named_added : (l0 l1 l2 l3 l4 : List ElementTree) → l1 ≡ l0 ++ common_properties
    → l2 ≡ l1 ++ map (asked_property (codes "D") dav_space) (codes "quota-available-bytes" ∷ codes "quota-used-bytes" ∷ [])
    → l3 ≡ l2 ++ asked_property (codes "A") apache_space (codes "executable") ∷ []
    → l4 ≡ l3 ++ asked_property (codes "Z") microsoft_space (codes "Win32LastAccessTime") ∷ []
    → l4 ≡ l0 ++ named_properties
named_added l0 l1 l2 l3 l4 one two three four = rw (four, three, two, one) (simp append_assoc refl)

pub windows_added : (agent : List ℕ) (old new : List ElementTree) → true ≡ holds agent (codes "Microsoft")
    → new ≡ old ++ map (asked_property (codes "Z") microsoft_space) windows_names → new ≡ old ++ windows_properties agent
windows_added agent old new is added = rw (sym is) added

pub collection : (e copy child new : ElementTree) → e ≡ copy → child ≡ dav_element (codes "collection") [] → new ≡ with_child copy child
    → Here new ≡ Here (resource_type true e)
collection e copy child new same one added =
    ap Here (added ∙ ap (λ x. with_child x child) (sym same) ∙ ap (with_child e) one)

-- one item more that passes a test, or doesn't
pub filter_kept : {X : Type 0} (p : X → Bool) (xs : List X) (x : X) (kept all : List X) → kept ≡ filter p xs → all ≡ kept ++ x ∷ [] → p x ≡ true → all ≡ filter p (xs ++ x ∷ [])
filter_kept p xs x kept all so_far more passes = more ∙ ap (λ l. l ++ x ∷ []) so_far ∙ sym (filter-append p xs (x ∷ []) ∙ (rw passes refl))

pub filter_dropped : {X : Type 0} (p : X → Bool) (xs : List X) (x : X) (kept : List X) → kept ≡ filter p xs → p x ≡ false → kept ≡ filter p (xs ++ x ∷ [])
filter_dropped p xs x kept so_far fails = rw (filter-append p xs (x ∷ []), fails) (so_far ∙ simp append-nil refl)

pub wanted_is : (telling : Telling) (agent : List ℕ) (given listed shown more all : List ElementTree) → listed ≡ listed_properties telling agent → shown ≡ given
    → more ≡ filter (λ e. not (list_any (λ f. is_same_property f e) shown)) listed → all ≡ given ++ more → all ≡ wanted_properties telling agent given
wanted_is telling agent given listed shown more all one two three four =
    four ∙ ap (λ l. given ++ l) (three ∙ ap (λ s. filter (λ e. not (list_any (λ f. is_same_property f e) s)) listed) two ∙ ap (filter (λ e. not (list_any (λ f. is_same_property f e) given))) one)

-- ---- numbers with zeros in front

unpadded : (n : ℕ) → n - 0 - 0 ≡ n
unpadded n = omega arith

pub zeros : (width : ℕ) (numeral : List ℕ) → padded_integral (format_spec 32 0 4 width (2 ^ 64 - 1)) false [] numeral ≡ padded width numeral
unfolding padded_integral char_count
zeros width numeral = ap (λ n. replicate n 48 ++ (numeral ++ [])) (unpadded (width - length numeral)) ∙ ap (λ l. replicate (width - length numeral) 48 ++ l) (append-nil numeral)

-- what is written in one layout, where that is known to be another
pub laid_out_as : {L : Type 0} (write : L → List ℕ → List ℕ) (written : Option (List ℕ)) (layout known : L) (shown numeral text : List ℕ) → written ≡ Some numeral → layout ≡ known
    → write known numeral ≡ text → IfSome (option_map (write layout) written) (λ bytes. shown ≡ bytes) → shown ≡ text
laid_out_as write written layout known shown numeral text one two three four =
    subst (λ o. IfSome (option_map (write layout) o) (λ bytes. shown ≡ bytes)) one four ∙ ap (λ x. write x numeral) two ∙ three
