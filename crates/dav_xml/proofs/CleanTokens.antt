-- The pieces of clean bytes are legal.
use Rattle.std.proofs.Common.{◌≡◌, ℕ, zero, suc, Bool, true, false, cond, ◌||◌, ◌==◌, List, [], ◌∷◌, length, codes, Option, Some, None, is_some, Result, Ok, Err, refl, ap, subst}
use Rattle.std.specs.List.{list_any, AllByRecursion}
use Rattle.std.specs.Str.Lossy.{utf8_valid_len}
use Rattle.dav_xml.specs.declared.error.Fault.{Fault}
use Rattle.dav_xml.specs.declared.error.Fault.TheVariants.{Malformed}
use Rattle.dav_xml.specs.Read.{◌>>=◌, needed}
use Rattle.dav_xml.specs.Bytes.{is_space, is_name_start, is_name_byte, run, after_space, split_byte, after_text, split_text, name_after, name_at}
use Rattle.dav_xml.specs.Classes.{is_text}
use Rattle.dav_xml.specs.Names.{plain_name}
use Rattle.dav_xml.specs.References.{resolved, utf8}
use Rattle.dav_xml.specs.Token.{Markup, opens, empty, closes, content, nothing}
use Rattle.dav_xml.specs.Markup.{one_and, many, space_at, byte_at, quoted_at, value_of, attribute_at, attributes_at, tag_end, tag, tag_at, close_at, comment_at, section_at, is_xml, instruction_end, instruction_at, text_from, text_at, first_or, token_at, all_of, tokens_of}
use Rattle.dav_xml.specs.Legal.{IsLegal}
use Rattle.dav_xml.proofs.Escapes.{by_test}
use Rattle.dav_xml.proofs.Declared.{ok_or_else}
use Rattle.dav_xml.proofs.ReadTrees.{utf8_same}
use Rattle.dav_xml.proofs.Clean.{IsClean, clean_legal, clean_parts, run_clean, after_clean, split_byte_clean, split_text_clean}
use Rattle.dav_xml.proofs.CleanReferences.{resolved_clean}

-- what came before a step that gave something
pub record Bound {A B : Type 0} (r : Result A Fault) (f : A → Result B Fault) (b : B) : Type 0 where
  pub value : A
  pub first : r ≡ Ok value
  pub next : f value ≡ Ok b

pub bound : {A B : Type 0} (r : Result A Fault) (f : A → Result B Fault) (b : B) → (r >>= f) ≡ Ok b → Bound r f b
bound (Err e) f b h = absurd cc
bound (Ok x) f b h = record { value = x; first = refl; next = h }

pub needed_some : {X : Type 0} (o : Option X) (x : X) → needed o ≡ Ok x → o ≡ Some x
needed_some None x e = absurd cc
needed_some (Some y) x e = ap (λ (r : Result _ Fault). Some (ok_or_else y r)) e

-- ---- texts

utf8_valid : (bs v : List ℕ) → utf8 bs ≡ Ok v → (utf8_valid_len bs == length bs) ≡ true
utf8_valid bs v e = by_test (utf8_valid_len bs == length bs) (λ t. cond {A = Result (List ℕ) Fault} t (Ok bs) (Err Malformed) ≡ Ok v → t ≡ true) (λ k j. refl) (λ k j. absurd cc) e

legal_by : (bs v : List ℕ) → IsClean bs → utf8 bs ≡ Ok v → IsLegal v
legal_by bs v h e = subst IsLegal (utf8_same bs v e) (clean_legal bs (utf8_valid bs v e) h)

resolved_legal : (attribute : Bool) (bs v : List ℕ) → IsClean bs → (resolved attribute bs >>= utf8) ≡ Ok v → IsLegal v
resolved_legal attribute bs v h e =
    let one = bound (resolved attribute bs) utf8 v e in
    legal_by one.value v (resolved_clean attribute bs one.value h one.first) one.next

value_legal : (raw v : List ℕ) → IsClean raw → value_of raw ≡ Ok v → IsLegal v
value_legal raw v h e = by_test (list_any (λ b. b == 60) raw) (λ t. cond {A = Result (List ℕ) Fault} t (Err Malformed) (resolved true raw >>= utf8) ≡ Ok v → IsLegal v) (λ k j. absurd cc) (λ k j. resolved_legal true raw v h j) e

-- ---- what is read, and what is left

abbrev list_ok : List ℕ → Result (List ℕ) Fault
list_ok bs = Ok bs

abbrev list_of : List ℕ → Result (List ℕ) Fault → List ℕ
list_of other (Ok bs) = bs
list_of other (Err f) = other

after_space_clean : (bs : List ℕ) → IsClean bs → IsClean (after_space bs)
after_space_clean bs h = (run_clean is_space bs h).1

space_clean : (bs rest : List ℕ) → IsClean bs → space_at bs ≡ Ok rest → IsClean rest
space_clean [] rest h e = absurd cc
space_clean (b ∷ bs) rest h e = by_test (is_space b) (λ t. cond {A = Result (List ℕ) Fault} t (Ok (after_space (b ∷ bs))) (Err Malformed) ≡ Ok rest → IsClean rest) (λ k j. subst IsClean (ap (list_of []) j) (after_space_clean (b ∷ bs) h)) (λ k j. absurd cc) e

byte_clean : (w : ℕ) (bs rest : List ℕ) → IsClean bs → byte_at w bs ≡ Ok rest → IsClean rest
byte_clean w [] rest h e = absurd cc
byte_clean w (b ∷ bs) rest h e = by_test (b == w) (λ t. cond {A = Result (List ℕ) Fault} t (Ok bs) (Err Malformed) ≡ Ok rest → IsClean rest) (λ k j. subst IsClean (ap (list_of []) j) (clean_parts (b ∷ []) bs h).1) (λ k j. absurd cc) e

abbrev Pair : Type 0
Pair = List ℕ × List ℕ

name_same : (q p : Pair) → name_after q ≡ Ok p → q ≡ p
name_same ([], rest) p e = absurd cc
name_same (b ∷ bs, rest) p e = by_test (is_name_start b) (λ t. cond {A = Result Pair Fault} t (Ok (b ∷ bs, rest)) (Err Malformed) ≡ Ok p → (b ∷ bs, rest) ≡ p) (λ k j. ap (ok_or_else p) j) (λ k j. absurd cc) e

name_clean : (bs : List ℕ) (p : Pair) → IsClean bs → name_at bs ≡ Ok p → IsClean p.1
unfolding name_at
name_clean bs p h e = subst (λ (q : Pair). IsClean q.1) (name_same (run is_name_byte bs) p e) (run_clean is_name_byte bs h).1

quoted_clean : (bs : List ℕ) (p : Pair) → IsClean bs → quoted_at bs ≡ Ok p → IsClean p.0 × IsClean p.1
quoted_clean [] p h e = absurd cc
quoted_clean (q ∷ bs) p h e = by_test (q == 34 || q == 39) (λ t. cond {A = Result Pair Fault} t (needed (split_byte q bs)) (Err Malformed) ≡ Ok p → IsClean p.0 × IsClean p.1)
    (λ k j. split_byte_clean q bs p (needed_some (split_byte q bs) p j) (clean_parts (q ∷ []) bs h).1) (λ k j. absurd cc) e

abbrev pub HasValue : Pair → Type 0
HasValue a = IsLegal a.1

attribute_legal : (bs : List ℕ) (p : Pair × List ℕ) → IsClean bs → attribute_at bs ≡ Ok p → HasValue p.0 × IsClean p.1
unfolding attribute_at
attribute_legal bs p h e =
    let b1 = bound (space_at bs) _ p e in
    let b2 = bound (name_at b1.value) _ p b1.next in
    let b3 = bound (byte_at 61 (after_space b2.value.1)) _ p b2.next in
    let b4 = bound (quoted_at (after_space b3.value)) _ p b3.next in
    let b5 = bound (utf8 b2.value.0) _ p b4.next in
    let b6 = bound (value_of b4.value.0) _ p b5.next in
    let c1 = space_clean bs b1.value h b1.first in
    let c2 = name_clean b1.value b2.value c1 b2.first in
    let c3 = byte_clean 61 (after_space b2.value.1) b3.value (after_space_clean b2.value.1 c2) b3.first in
    let c4 = quoted_clean (after_space b3.value) b4.value (after_space_clean b3.value c3) b4.first in
    let is : ((b5.value, b6.value), b4.value.1) ≡ p = ap (ok_or_else p) b6.next in
    subst (λ (q : Pair × List ℕ). HasValue q.0 × IsClean q.1) is (value_legal b4.value.0 b6.value c4.0 b6.first, c4.1)

-- ---- as many as there are

module _ {X : Type 0} (item : List ℕ → Result (X × List ℕ) Fault) (P : X → Type 0) (sound : (bs : List ℕ) (p : X × List ℕ) → IsClean bs → item bs ≡ Ok p → P p.0 × IsClean p.1) where
  one_legal : (bs : List ℕ) (r : Result (X × List ℕ) Fault) → item bs ≡ r → IsClean bs → (more : List ℕ → List X × List ℕ) → ((rest : List ℕ) → IsClean rest → AllByRecursion P (more rest).0 × IsClean (more rest).1)
      → AllByRecursion P (one_and r bs more).0 × IsClean (one_and r bs more).1
  one_legal bs (Err f) is h more rec = (tt, h)
  one_legal bs (Ok p) is h more rec =
      let one = sound bs p h is in
      let others = rec p.1 one.1 in
      ((one.0, others.0), others.1)

  pub many_legal : (n : ℕ) (bs : List ℕ) → IsClean bs → AllByRecursion P (many item n bs).0 × IsClean (many item n bs).1
  unfolding many
  many_legal zero bs h = (tt, h)
  many_legal (suc n) bs h = one_legal bs (item bs) refl h (many item n) (λ rest k. many_legal n rest k)

-- ---- pieces

abbrev pub IsLegalToken : Markup → Type 0
IsLegalToken (opens name attributes) = AllByRecursion HasValue attributes
IsLegalToken (empty name attributes) = AllByRecursion HasValue attributes
IsLegalToken (closes name) = Unit {0}
IsLegalToken (content is_blank bytes) = IsLegal bytes
IsLegalToken nothing = Unit {0}

abbrev Piece : Type 0
Piece = Markup × List ℕ

abbrev IsSound : Piece → Type 0
IsSound p = IsLegalToken p.0 × IsClean p.1

abbrev End : Type 0
End = Bool × List ℕ

end_clean : (bs : List ℕ) (p : End) → IsClean bs → tag_end bs ≡ Ok p → IsClean p.1
end_clean [] p h e = absurd cc
end_clean (b ∷ bs) p h e =
    let after = (clean_parts (b ∷ []) bs h).1 in
    by_test (b == 62) (λ t. cond {A = Result End Fault} t (Ok (false, bs)) (cond {A = Result End Fault} (b == 47) (byte_at 62 bs >>= λ rest. Ok (true, rest)) (Err Malformed)) ≡ Ok p → IsClean p.1)
    (λ k j. subst (λ (q : End). IsClean q.1) (ap (ok_or_else p) j) after)
    (λ k j. by_test (b == 47) (λ t. cond {A = Result End Fault} t (byte_at 62 bs >>= λ rest. Ok (true, rest)) (Err Malformed) ≡ Ok p → IsClean p.1)
    (λ l i. let one = bound (byte_at 62 bs) _ p i in subst (λ (q : End). IsClean q.1) (ap (ok_or_else p) one.next) (byte_clean 62 bs one.value after one.first)) (λ l i. absurd cc) j) e

tag_legal_by : (name : List ℕ) (attributes : List Pair) (is_empty : Bool) → AllByRecursion HasValue attributes → IsLegalToken (tag name attributes is_empty)
tag_legal_by name attributes true h = h
tag_legal_by name attributes false h = h

tag_legal : (bs : List ℕ) (p : Piece) → IsClean bs → tag_at bs ≡ Ok p → IsSound p
unfolding tag_at
tag_legal bs p h e =
    let b1 = bound (name_at bs) _ p e in
    let found = attributes_at b1.value.1 in
    let b2 = bound (tag_end (after_space found.1)) _ p b1.next in
    let b3 = bound (utf8 b1.value.0) _ p b2.next in
    let c1 = name_clean bs b1.value h b1.first in
    let c2 = many_legal attribute_at HasValue attribute_legal (length b1.value.1) b1.value.1 c1 in
    let c3 = end_clean (after_space found.1) b2.value (after_space_clean found.1 c2.1) b2.first in
    subst IsSound (ap (ok_or_else p) b3.next) (tag_legal_by b3.value found.0 b2.value.0 c2.0, c3)

close_legal : (bs : List ℕ) (p : Piece) → IsClean bs → close_at bs ≡ Ok p → IsSound p
unfolding close_at
close_legal bs p h e =
    let b1 = bound (name_at bs) _ p e in
    let b2 = bound (byte_at 62 (after_space b1.value.1)) _ p b1.next in
    let b3 = bound (utf8 b1.value.0) _ p b2.next in
    let c1 = name_clean bs b1.value h b1.first in
    subst IsSound (ap (ok_or_else p) b3.next) (tt, byte_clean 62 (after_space b1.value.1) b2.value (after_space_clean b1.value.1 c1) b2.first)

comment_legal : (bs : List ℕ) (p : Piece) → IsClean bs → comment_at bs ≡ Ok p → IsSound p
unfolding comment_at
comment_legal bs p h e =
    let b1 = bound (needed (split_text (codes "--") bs)) _ p e in
    let b2 = bound (byte_at 62 b1.value.1) _ p b1.next in
    let c1 = split_text_clean (codes "--") bs b1.value (needed_some (split_text (codes "--") bs) b1.value b1.first) h in
    subst IsSound (ap (ok_or_else p) b2.next) (tt, byte_clean 62 b1.value.1 b2.value c1.1 b2.first)

section_legal : (bs : List ℕ) (p : Piece) → IsClean bs → section_at bs ≡ Ok p → IsSound p
unfolding section_at
section_legal bs p h e =
    let b1 = bound (needed (split_text (codes "]]>") bs)) _ p e in
    let b2 = bound (utf8 b1.value.0) _ p b1.next in
    let c1 = split_text_clean (codes "]]>") bs b1.value (needed_some (split_text (codes "]]>") bs) b1.value b1.first) h in
    subst IsSound (ap (ok_or_else p) b2.next) (legal_by b1.value.0 b2.value c1.0 b2.first, c1.1)

instruction_clean : (o : Option (List ℕ)) (bs rest : List ℕ) → after_text (codes "?>") bs ≡ o → IsClean bs → instruction_end o bs ≡ Ok rest → IsClean rest
instruction_clean (Some after) bs rest is h e = subst IsClean (ap (list_of []) e) (after_clean (codes "?>") bs after is h)
instruction_clean None bs rest is h e =
    let b1 = bound (space_at bs) _ rest e in
    let b2 = bound (needed (split_text (codes "?>") b1.value)) _ rest b1.next in
    let c1 = space_clean bs b1.value h b1.first in
    subst IsClean (ap (list_of []) b2.next) (split_text_clean (codes "?>") b1.value b2.value (needed_some (split_text (codes "?>") b1.value) b2.value b2.first) c1).1

instruction_legal : (bs : List ℕ) (p : Piece) → IsClean bs → instruction_at bs ≡ Ok p → IsSound p
unfolding instruction_at
instruction_legal bs p h e =
    let b1 = bound (name_at bs) _ p e in
    let b2 = bound (cond {A = Result (List ℕ) Fault} (is_xml b1.value.0) (Err Malformed) (instruction_end (after_text (codes "?>") b1.value.1) b1.value.1)) _ p b1.next in
    let b3 = bound (plain_name b1.value.0) _ p b2.next in
    let c1 = name_clean bs b1.value h b1.first in
    let c2 : IsClean b2.value = by_test (is_xml b1.value.0) (λ t. cond {A = Result (List ℕ) Fault} t (Err Malformed) (instruction_end (after_text (codes "?>") b1.value.1) b1.value.1) ≡ Ok b2.value → IsClean b2.value)
    (λ k j. absurd cc) (λ k j. instruction_clean (after_text (codes "?>") b1.value.1) b1.value.1 b2.value refl c1 j) b2.first in
    subst IsSound (ap (ok_or_else p) b3.next) (tt, c2)

text_legal_from : (at_end : Bool) (q : Pair) (p : Piece) → IsClean q.0 → IsClean q.1 → text_from at_end q ≡ Ok p → IsSound p
text_legal_from at_end q p h k e =
    let b1 = bound (cond {A = Result (List ℕ) Fault} (at_end || is_some (split_text (codes "]]>") q.0)) (Err Malformed) (resolved false q.0 >>= utf8)) _ p e in
    let legal : IsLegal b1.value = by_test (at_end || is_some (split_text (codes "]]>") q.0)) (λ t. cond {A = Result (List ℕ) Fault} t (Err Malformed) (resolved false q.0 >>= utf8) ≡ Ok b1.value → IsLegal b1.value)
    (λ l j. absurd cc) (λ l j. resolved_legal false q.0 b1.value h j) b1.first in
    subst IsSound (ap (ok_or_else p) b1.next) (legal, k)

text_legal : (bs : List ℕ) (p : Piece) → IsClean bs → text_at bs ≡ Ok p → IsSound p
unfolding text_at
text_legal bs p h e = let parts = run_clean is_text bs h in text_legal_from (length bs == 0) (run is_text bs) p parts.0 parts.1 e

first_legal : (ws bs : List ℕ) (p : Piece) (reader : List ℕ → Result Piece Fault) (other : Result Piece Fault) → IsClean bs → ((rest : List ℕ) → IsClean rest → reader rest ≡ Ok p → IsSound p) → (other ≡ Ok p → IsSound p)
    → (o : Option (List ℕ)) → after_text ws bs ≡ o → first_or o reader other ≡ Ok p → IsSound p
first_legal ws bs p reader other h one rec None is e = rec e
first_legal ws bs p reader other h one rec (Some rest) is e = one rest (after_clean ws bs rest is h) e

pub token_legal : (bs : List ℕ) (p : Piece) → IsClean bs → token_at bs ≡ Ok p → IsSound p
unfolding token_at
token_legal bs p h e =
    first_legal (codes "<!--") bs p comment_at _ h (λ rest k j. comment_legal rest p k j)
    (λ e1. first_legal (codes "<![CDATA[") bs p section_at _ h (λ rest k j. section_legal rest p k j)
    (λ e2. first_legal (codes "<?") bs p instruction_at _ h (λ rest k j. instruction_legal rest p k j)
    (λ e3. first_legal (codes "</") bs p close_at _ h (λ rest k j. close_legal rest p k j)
    (λ e4. first_legal (codes "<") bs p tag_at _ h (λ rest k j. tag_legal rest p k j)
    (λ e5. text_legal bs p h e5) (after_text (codes "<") bs) refl e4) (after_text (codes "</") bs) refl e3) (after_text (codes "<?") bs) refl e2) (after_text (codes "<![CDATA[") bs) refl e1) (after_text (codes "<!--") bs) refl e

all_same : (q : List Markup × List ℕ) (ts : List Markup) → all_of q ≡ Ok ts → q.0 ≡ ts
all_same (xs, []) ts e = ap (ok_or_else ts) e
all_same (xs, b ∷ rest) ts e = absurd cc

pub tokens_legal : (bs : List ℕ) (ts : List Markup) → IsClean bs → tokens_of bs ≡ Ok ts → AllByRecursion IsLegalToken ts
unfolding tokens_of
tokens_legal bs ts h e = subst (AllByRecursion IsLegalToken) (all_same (many token_at (length bs) bs) ts e) (many_legal token_at IsLegalToken token_legal (length bs) bs h).0
