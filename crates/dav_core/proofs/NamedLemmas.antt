-- The sets of methods that texts name.
use Rattle.std.proofs.Common.{◌≡◌, ℕ, ◌+◌, ◌<◌, ◌⊎◌, ◌↔◌, List, [], ◌∷◌, ◌++◌, length, take, get_or, map, bytes_eq, refl, sym, ap, subst, ◌∙◌, inl, inr, arith}
use Rattle.std.proofs.Math.ListN.{get_or-map}
use Rattle.std.specs.List.{All, Contains, position_or_len}
use Rattle.std.specs.Char.{to_ascii_lowercase}
use Rattle.std.proofs.lemmas.List.{take_more, map_push, length-map}
use Rattle.std.proofs.lemmas.List.Elements.{All-nil, All-push, Contains-push, Contains-push_cases, Contains-append_left}
use Rattle.std.proofs.lemmas.Nat.Bits.{bit_at-zero}
use denote.Ref.{Bor}
use Rattle.dav_core.specs.declared.method.DavMethod.{DavMethod}
use Rattle.dav_core.specs.declared.method.DavMethod.TheVariants.{Head, Get, Put, Patch, Options, PropFind, PropPatch, MkCol, Copy, Move, Delete, Lock, Unlock, Report, MkCalendar, MkAddressbook}
use Rattle.dav_core.specs.Method.{all_methods, method_name, place_of, Has, NamesMethod, IsMethodName, IsNamedSet, texts_of}
use Rattle.dav_core.proofs.MethodLemmas.{same_place}

-- the place of the method with this name in small letters
abbrev place_named : List ℕ → ℕ
place_named text = position_or_len (bytes_eq text) (map (λ m. map to_ascii_lowercase (method_name m)) all_methods)

place_found : (m : DavMethod) → place_named (map to_ascii_lowercase (method_name m)) ≡ place_of m
place_found Head = refl
place_found Get = refl
place_found Put = refl
place_found Patch = refl
place_found Options = refl
place_found PropFind = refl
place_found PropPatch = refl
place_found MkCol = refl
place_found Copy = refl
place_found Move = refl
place_found Delete = refl
place_found Lock = refl
place_found Unlock = refl
place_found Report = refl
place_found MkCalendar = refl
place_found MkAddressbook = refl

-- a text names one method at most
pub named_once : (text : List ℕ) (m n : DavMethod) → NamesMethod text m → NamesMethod text n → m ≡ n
named_once text m n h k = same_place m n (sym (place_found m) ∙ ap place_named (sym h ∙ k) ∙ place_found n)

-- no text names no method
pub none_named : IsNamedSet [] 0
none_named = record {
  named = All-nil IsMethodName;
  has = λ m. (λ h. absurd (omega (arith, h, bit_at-zero (place_of m))), λ w. absurd (omega (arith, w.1.1)));
}

-- one text more adds its method
named_more : (texts : List (List ℕ)) (text : List ℕ) (old new : ℕ) (n : DavMethod) → IsNamedSet texts old → NamesMethod text n → ((m : DavMethod) → Has new m ↔ ((m ≡ n) ⊎ Has old m)) → IsNamedSet (texts ++ text ∷ []) new
named_more texts text old new n h named added = record {
  named = All-push IsMethodName texts text h.named (n, named);
  has = λ m. (λ k. to m ((added m).0 k), λ w. (added m).1 (from m w.0 w.2 (Contains-push_cases texts text w.0 w.1)));
}
  where
    to : (m : DavMethod) → (m ≡ n) ⊎ Has old m → (t : List ℕ) × Contains (texts ++ text ∷ []) t × NamesMethod t m
    to m (inl e) = (text, Contains-push texts text, rw e named)
    to m (inr k) = let w = (h.has m).0 k in (w.0, Contains-append_left texts (text ∷ []) w.0 w.1, w.2)

    from : (m : DavMethod) (t : List ℕ) → NamesMethod t m → Contains texts t ⊎ (text ≡ t) → (m ≡ n) ⊎ Has old m
    from m t k (inl there) = inr ((h.has m).1 (t, there, k))
    from m t k (inr e) = inl (named_once t m n k (rw (← e) named))

-- the same at a place of a list of lent texts
pub named_next : (names : List (Bor (List ℕ))) (i : ℕ) (d : Bor (List ℕ)) (old new : ℕ) (n : DavMethod) → i < length names → IsNamedSet (texts_of (take i names)) old → NamesMethod (get_or names i d).now n → ((m : DavMethod) → Has new m ↔ ((m ≡ n) ⊎ Has old m)) → IsNamedSet (texts_of (take (i + 1) names)) new
named_next names i d old new n within h named added =
    rw (take_more names i d within, map_push (λ (t : Bor (List ℕ)). t.now) (take i names) (get_or names i d)) (named_more (texts_of (take i names)) (get_or names i d).now old new n h named added)

-- a text that names no method is not passed over
pub not_all_named : (names : List (Bor (List ℕ))) (i : ℕ) (d : Bor (List ℕ)) → i < length names → ¬ (IsMethodName (get_or names i d).now) → ¬ (All IsMethodName (texts_of names))
not_all_named names i d within other all =
    other (subst IsMethodName (get_or-map (λ (t : Bor (List ℕ)). t.now) names i d) (all i d.now (omega (arith, within, length-map names (λ (t : Bor (List ℕ)). t.now)))))
