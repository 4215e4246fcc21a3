-- Where a path is cut after a prefix, and that a prefix cuts it in one way.
use Rattle.std.proofs.Common.{◌≡◌, ◌≢◌, ℕ, ◌<◌, true, false, List, [], ◌∷◌, ◌++◌, length, take, drop, get_or, Some, None, refl, sym, ap, ◌∙◌, arith, length-append}
use Rattle.std.proofs.lemmas.List.{take_at, drop_at, append-nil, append_cancel_left}
use Rattle.dav_core.specs.Path.{PathText, IsCut, at_start, at_slash, at_end}
use Rattle.dav_core.specs.PathRef.{CutsAt}
use Rattle.dav_core.specs.Laws.{OneCut}

-- a text isn't itself with more at its end
not_longer : (p rest : List ℕ) (b : ℕ) → p ≡ p ++ b ∷ rest → ⊥
not_longer p rest b e = omega (arith, ap length e, length-append p (b ∷ rest))

text_same : (prefix p bytes bs : List ℕ) → prefix ≡ p → bytes ≡ bs → ◌≡◌ {A = PathText} (record { prefix = prefix; bytes = bytes }) (record { prefix = p; bytes = bs })
text_same prefix p bytes bs e f = λ i. record { prefix = e i; bytes = f i }

-- where a path is cut: at its start, after all of it, before a slash, or nowhere
pub cuts_start : (p bytes : List ℕ) → length p ≡ 0 → CutsAt p bytes (Some false)
cuts_start [] bytes e = (omega arith, at_start refl (text_same [] [] (bytes ++ []) bytes refl (append-nil bytes)), λ clash. cc)
cuts_start (b ∷ p) bytes e = absurd (omega (arith, e))

pub cuts_whole : (p bytes rest : List ℕ) → p ≢ [] → bytes ≡ p ++ rest → length rest ≡ 0 → CutsAt p bytes (Some true)
cuts_whole p bytes [] some e none =
    let whole : bytes ≡ p = e ∙ append-nil p in (
      omega (arith, ap length whole),
      at_end some whole (text_same (take (length p) bytes) p (drop (length p) bytes ++ 47 ∷ []) (47 ∷ [])
          (ap (take (length p)) e ∙ take_at p [] (length p) refl) (ap (λ bs. bs ++ 47 ∷ []) (ap (drop (length p)) e ∙ drop_at p [] (length p) refl))),
      λ _. (some, whole),
    )
cuts_whole p bytes (b ∷ rest) some e none = absurd (omega (arith, none))

pub cuts_slash : (p bytes rest : List ℕ) → p ≢ [] → bytes ≡ p ++ rest → 0 < length rest → get_or rest 0 0 ≡ 47 → CutsAt p bytes (Some false)
cuts_slash p bytes [] some e more slash = absurd (omega (arith, more))
cuts_slash p bytes (b ∷ rest) some e more slash =
    let whole : bytes ≡ p ++ 47 ∷ rest = e ∙ ap (λ c. p ++ c ∷ rest) slash in (
      omega (arith, ap length e, length-append p (b ∷ rest)),
      at_slash whole (text_same (take (length p) bytes) p (drop (length p) bytes ++ []) (47 ∷ rest)
          (ap (take (length p)) whole ∙ take_at p (47 ∷ rest) (length p) refl)
          (append-nil (drop (length p) bytes) ∙ ap (drop (length p)) whole ∙ drop_at p (47 ∷ rest) (length p) refl)),
      λ clash. cc,
    )

pub cuts_inside : (p bytes rest : List ℕ) → p ≢ [] → bytes ≡ p ++ rest → 0 < length rest → get_or rest 0 0 ≢ 47 → CutsAt p bytes None
cuts_inside p bytes [] some e more other = absurd (omega (arith, more))
cuts_inside p bytes (b ∷ rest) some e more other = λ cut is. elim is [
  | at_start empty same ↦ some empty
  | at_slash {rest = after} whole same ↦ let tail : b ∷ rest ≡ 47 ∷ after = append_cancel_left p (b ∷ rest) (47 ∷ after) (sym e ∙ whole) in other (ap (λ bs. get_or bs 0 0) tail)
  | at_end full whole same ↦ not_longer p rest b (sym whole ∙ e)
]

pub cuts_other : (p bytes : List ℕ) → p ≢ [] → ((rest : List ℕ) → bytes ≢ p ++ rest) → CutsAt p bytes None
cuts_other p bytes some other = λ cut is. elim is [
  | at_start empty same ↦ some empty
  | at_slash {rest = after} whole same ↦ other (47 ∷ after) whole
  | at_end full whole same ↦ other [] (whole ∙ sym (append-nil p))
]

-- a path that is cut after a prefix has this prefix
pub cut_prefix : (p bytes : List ℕ) (cut : PathText) → IsCut p bytes cut → cut.prefix ≡ p
cut_prefix p bytes cut (at_start empty same) = ap (λ (t : PathText). t.prefix) same ∙ sym empty
cut_prefix p bytes cut (at_slash whole same) = ap (λ (t : PathText). t.prefix) same
cut_prefix p bytes cut (at_end some whole same) = ap (λ (t : PathText). t.prefix) same

-- a cut at the start and one before a slash leave the same
start_slash : (p bytes rest : List ℕ) → p ≡ [] → bytes ≡ p ++ 47 ∷ rest → ◌≡◌ {A = PathText} (record { prefix = []; bytes = bytes }) (record { prefix = p; bytes = 47 ∷ rest })
start_slash p bytes rest empty whole = text_same [] p bytes (47 ∷ rest) (sym empty) (whole ∙ ap (λ q. q ++ 47 ∷ rest) empty)

pub one_cut : OneCut
one_cut p bytes a b (at_start e f) (at_start g h) = f ∙ sym h
one_cut p bytes a b (at_start e f) (at_slash {rest} g h) = f ∙ start_slash p bytes rest e g ∙ sym h
one_cut p bytes a b (at_start e f) (at_end some g h) = absurd (some e)
one_cut p bytes a b (at_slash {rest} e f) (at_start g h) = f ∙ sym (start_slash p bytes rest g e) ∙ sym h
one_cut p bytes a b (at_slash {rest} e f) (at_slash {rest = after} g h) =
    f ∙ text_same p p (47 ∷ rest) (47 ∷ after) refl (append_cancel_left p (47 ∷ rest) (47 ∷ after) (sym e ∙ g)) ∙ sym h
one_cut p bytes a b (at_slash {rest} e f) (at_end some g h) = absurd (not_longer p rest 47 (sym g ∙ e))
one_cut p bytes a b (at_end some e f) (at_start g h) = absurd (some g)
one_cut p bytes a b (at_end some e f) (at_slash {rest} g h) = absurd (not_longer p rest 47 (sym e ∙ g))
one_cut p bytes a b (at_end some e f) (at_end more g h) = f ∙ sym h
