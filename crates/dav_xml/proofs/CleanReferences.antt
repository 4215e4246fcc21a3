-- References are resolved to legal characters.
use Rattle.std.proofs.Common.{◌≡◌, ℕ, ◌+◌, ◌/◌, ◌<◌, ◌≤◌, Bool, true, false, cond, ◌&&◌, ◌==◌, List, [], ◌∷◌, ◌++◌, codes, bytes_eq, nat_le, Option, Some, None, Result, Ok, Err, refl, sym, ap, subst, ◌∙◌, arith, encode_utf8}
use Rattle.std.proofs.lemmas.Bool.{eq-eqb, and_parts, and_from}
use Rattle.std.proofs.lemmas.Bool.Decides.{nat_tests}
use Rattle.std.proofs.lemmas.List.Folds.{list_all-append}
use Rattle.std.specs.List.{list_all}
use lib.Utf8.{encode}
use Rattle.dav_xml.specs.declared.error.Fault.{Fault}
use Rattle.dav_xml.specs.declared.error.Fault.TheVariants.{Malformed}
use Rattle.dav_xml.specs.Read.{◌>>=◌}
use Rattle.dav_xml.specs.Bytes.{is_space, after_text}
use Rattle.dav_xml.specs.References.{is_char, code_of, character_of, entity_of, reference_of, before, plain_byte, resolved_in, resolved}
use Rattle.dav_xml.specs.Front.{is_printed}
use Rattle.dav_xml.proofs.Escapes.{by_test}
use Rattle.dav_xml.proofs.Legal.{encode_cases, printed, unmarked}
use Rattle.dav_xml.proofs.Clean.{mark, HasNoMark, IsClean, mark_parts, mark_join}
use Rattle.dav_xml.proofs.ReadTrees.{after_joined}

-- ---- what a reference stands for

number_ok : ℕ → Result ℕ Fault
number_ok c = Ok c

abbrev char_or : ℕ → Result ℕ Fault → ℕ
char_or other (Ok c) = c
char_or other (Err f) = other

char_by : (r : Result ℕ Fault) (c : ℕ) → (r >>= λ d. cond {A = Result ℕ Fault} (is_char d) (Ok d) (Err Malformed)) ≡ Ok c → is_char c ≡ true
char_by (Err f) c e = absurd cc
char_by (Ok d) c e = by_test (is_char d) (λ t. is_char d ≡ t → cond {A = Result ℕ Fault} t (Ok d) (Err Malformed) ≡ Ok c → is_char c ≡ true) (λ is k j. ap is_char (sym (ap (char_or d) j)) ∙ is) (λ not k j. absurd cc) refl e

abbrev else_by : Bool → ℕ → Result ℕ Fault → Result ℕ Fault
else_by t c other = cond t (Ok c) other

entity_case : (t : Bool) (d c : ℕ) (other : Result ℕ Fault) → is_char d ≡ true → (other ≡ Ok c → is_char c ≡ true) → else_by t d other ≡ Ok c → is_char c ≡ true
entity_case true d c other is rest e = ap is_char (sym (ap (char_or d) e)) ∙ is
entity_case false d c other is rest e = rest e

entity_char : (name : List ℕ) (c : ℕ) → entity_of name ≡ Ok c → is_char c ≡ true
entity_char name c e =
    entity_case (bytes_eq name (codes "lt")) 60 c _ refl (λ e1. entity_case (bytes_eq name (codes "gt")) 62 c _ refl (λ e2. entity_case (bytes_eq name (codes "amp")) 38 c _ refl (λ e3.
    entity_case (bytes_eq name (codes "quot")) 34 c _ refl (λ e4. entity_case (bytes_eq name (codes "apos")) 39 c _ refl (λ e5. absurd cc) e4) e3) e2) e1) e

reference_char : (name : List ℕ) (c : ℕ) → reference_of name ≡ Ok c → is_char c ≡ true
reference_char [] c e = absurd cc
reference_char (b ∷ bs) c e = by_test (b == 35) (λ t. cond {A = Result ℕ Fault} t (character_of bs) (entity_of (b ∷ bs)) ≡ Ok c → is_char c ≡ true) (λ is k. char_by (code_of bs) c k) (λ not k. entity_char (b ∷ bs) c k) e

-- ---- the bytes that come out

-- a byte within a character
abbrev pub is_inner : ℕ → Bool
is_inner b = nat_le 128 b && nat_le b 191

-- the bytes that begin with a byte within a character begin so before references are resolved
record Starts (bs : List ℕ) (x : ℕ) (attribute : Bool) (more : List ℕ) : Type 0 where
  pub rest : List ℕ
  pub is : bs ≡ x ∷ rest
  pub resolves : resolved_in attribute None rest ≡ Ok more

abbrev bytes_or : List ℕ → Result (List ℕ) Fault → List ℕ
bytes_or other (Ok bs) = bs
bytes_or other (Err f) = other

abbrev pub first_or_zero : List ℕ → ℕ
first_or_zero [] = 0
first_or_zero (b ∷ bs) = b

-- the first byte of a character is none within one
first_not_inner : (c : ℕ) (rest : List ℕ) → is_inner (first_or_zero (encode c ++ rest)) ≡ false
first_not_inner c rest = encode_cases (λ bytes. is_inner (first_or_zero (bytes ++ rest)) ≡ false) c
    (λ lt. below c lt) (λ le lt. above (192 + c / 64) (omega arith)) (λ le lt. above (224 + c / 4096) (omega arith)) (λ le. above (240 + c / 262144) (omega arith))
  where
    below : (b : ℕ) → b < 128 → is_inner b ≡ false
    below b lt = grind (arith, nat_tests)

    above : (b : ℕ) → 192 ≤ b → is_inner b ≡ false
    above b le = grind (arith, nat_tests)

pub before_ok : (front : List ℕ) (r : Result (List ℕ) Fault) (out : List ℕ) → before front r ≡ Ok out → (more : List ℕ) × ((r ≡ Ok more) × (front ++ more ≡ out))
before_ok front (Err f) out e = absurd cc
before_ok front (Ok more) out e = (more, (refl, ap (bytes_or out) e))

-- what comes out behind a reference begins with a character
inside_first : (attribute : Bool) (name bs v : List ℕ) → resolved_in attribute (Some name) bs ≡ Ok v → is_inner (first_or_zero v) ≡ false
unfolding resolved_in
inside_first attribute name [] v e = absurd cc
inside_first attribute name (b ∷ bs) v e =
    by_test (b == 59) (λ t. cond {A = Result (List ℕ) Fault} t (reference_of name >>= λ c. before (encode_utf8 c) (resolved_in attribute None bs)) (resolved_in attribute (Some (name ++ b ∷ [])) bs) ≡ Ok v → is_inner (first_or_zero v) ≡ false)
    (λ is k. referred (reference_of name) (resolved_in attribute None bs) k) (λ not k. inside_first attribute (name ++ b ∷ []) bs v k) e
  where
    referred : (r : Result ℕ Fault) (s : Result (List ℕ) Fault) → (r >>= λ c. before (encode_utf8 c) s) ≡ Ok v → is_inner (first_or_zero v) ≡ false
    referred (Err f) s k = absurd cc
    referred (Ok c) s k = let parts = before_ok (encode_utf8 c) s v k in ap (λ (bs : List ℕ). is_inner (first_or_zero bs)) (sym parts.1.1) ∙ first_not_inner c parts.0

plain_inner : (attribute : Bool) (b x : ℕ) → is_inner x ≡ true → plain_byte attribute b ≡ x → b ≡ x
plain_inner attribute b x i e = by_test (attribute && is_space b) (λ t. cond t 32 b ≡ x → b ≡ x) (λ s k. let both : false ≡ true = ap is_inner k ∙ i in absurd cc) (λ s k. k) e

abbrev pub tail_of : List ℕ → List ℕ
tail_of [] = []
tail_of (b ∷ bs) = bs

starts : (attribute : Bool) (bs : List ℕ) (x : ℕ) (more : List ℕ) → is_inner x ≡ true → resolved_in attribute None bs ≡ Ok (x ∷ more) → Starts bs x attribute more
unfolding resolved_in
starts attribute [] x more i e = let both : [] ≡ x ∷ more = ap (bytes_or []) e in absurd cc
starts attribute (b ∷ bs) x more i e =
    by_test (b == 38) (λ t. cond {A = Result (List ℕ) Fault} t (resolved_in attribute (Some []) bs) (before (plain_byte attribute b ∷ []) (resolved_in attribute None bs)) ≡ Ok (x ∷ more) → Starts (b ∷ bs) x attribute more)
    (λ is k. let both : true ≡ false = sym i ∙ inside_first attribute [] bs (x ∷ more) k in absurd cc)
    (λ not k. plain (before_ok (plain_byte attribute b ∷ []) (resolved_in attribute None bs) (x ∷ more) k)) e
  where
    plain : (more1 : List ℕ) × ((resolved_in attribute None bs ≡ Ok more1) × ((plain_byte attribute b ∷ []) ++ more1 ≡ x ∷ more)) → Starts (b ∷ bs) x attribute more
    plain parts =
        let head : plain_byte attribute b ≡ x = ap first_or_zero parts.1.1 in
        let rest : parts.0 ≡ more = ap tail_of parts.1.1 in
        record { rest = bs; is = ap (λ (y : ℕ). y ∷ bs) (plain_inner attribute b x i head); resolves = parts.1.0 ∙ ap (λ (ys : List ℕ). Ok ys) rest }

plain_mark : (attribute : Bool) (b : ℕ) → plain_byte attribute b ≡ 239 → b ≡ 239
plain_mark attribute b e = by_test (attribute && is_space b) (λ t. cond t 32 b ≡ 239 → b ≡ 239) (λ s k. absurd cc) (λ s k. k) e

pub mark_found : (last : ℕ) (rest : List ℕ) → after_text (mark last) (mark last ++ rest) ≡ Some rest
mark_found last rest = ap (λ (t : Bool). cond t (Some rest) None) (eq-eqb last last refl)

pub last_inner : (last : ℕ) → 190 ≤ last → last ≤ 191 → is_inner last ≡ true
last_inner last le ge = grind (arith, nat_tests)

-- no mark comes out where a byte stands for itself
module _ (attribute : Bool) (last b : ℕ) (bs v : List ℕ) (le : 190 ≤ last) (ge : last ≤ 191) (none : HasNoMark last (b ∷ bs)) (resolves : resolved_in attribute None bs ≡ Ok v) where
  contradicts : (rest : List ℕ) → plain_byte attribute b ∷ v ≡ 239 ∷ 191 ∷ last ∷ rest → ⊥
  contradicts rest e =
      let head : b ≡ 239 = plain_mark attribute b (ap first_or_zero e) in
      let after : v ≡ 191 ∷ last ∷ rest = ap tail_of e in
      let one = starts attribute bs 191 (last ∷ rest) refl (resolves ∙ ap (λ (ys : List ℕ). Ok ys) after) in
      let two = starts attribute one.rest last rest (last_inner last le ge) one.resolves in
      let spelled : b ∷ bs ≡ mark last ++ two.rest = ap (λ (x : ℕ). x ∷ bs) head ∙ ap (λ (ys : List ℕ). 239 ∷ ys) (one.is ∙ ap (λ (ys : List ℕ). 191 ∷ ys) two.is) in
      let both : Some two.rest ≡ None = sym (ap (after_text (mark last)) spelled ∙ mark_found last two.rest) ∙ (mark_parts last b bs none).0 in
      absurd cc

  none_here : (o : Option (List ℕ)) → after_text (mark last) (plain_byte attribute b ∷ v) ≡ o → o ≡ None
  none_here None is = refl
  none_here (Some rest) is = absurd (contradicts rest (after_joined (mark last) (plain_byte attribute b ∷ v) rest is))

  pub no_mark_here : after_text (mark last) (plain_byte attribute b ∷ v) ≡ None
  no_mark_here = none_here (after_text (mark last) (plain_byte attribute b ∷ v)) refl

abbrev state_or : Option (List ℕ) → List ℕ
state_or None = []
state_or (Some name) = name

reference_marks : (last : ℕ) (v : List ℕ) (r : Result ℕ Fault) → ((c : ℕ) → r ≡ Ok c → is_char c ≡ true) → (s : Result (List ℕ) Fault) → ((w : List ℕ) → s ≡ Ok w → HasNoMark last w) → 190 ≤ last → last ≤ 191
    → (r >>= λ c. before (encode_utf8 c) s) ≡ Ok v → HasNoMark last v
reference_marks last v (Err f) one s rec le ge e = absurd cc
reference_marks last v (Ok c) one s rec le ge e =
    let parts = before_ok (encode_utf8 c) s v e in
    subst (HasNoMark last) parts.1.1 (unmarked c last parts.0 (one c refl) le ge (rec parts.0 parts.1.0))

plain_marks : (attribute : Bool) (last b : ℕ) (bs v : List ℕ) → 190 ≤ last → last ≤ 191 → HasNoMark last (b ∷ bs) → ((w : List ℕ) → resolved_in attribute None bs ≡ Ok w → HasNoMark last w)
    → before (plain_byte attribute b ∷ []) (resolved_in attribute None bs) ≡ Ok v → HasNoMark last v
plain_marks attribute last b bs v le ge none rec e =
    let parts = before_ok (plain_byte attribute b ∷ []) (resolved_in attribute None bs) v e in
    subst (HasNoMark last) parts.1.1 (mark_join last (plain_byte attribute b) parts.0 (no_mark_here attribute last b bs parts.0 le ge none parts.1.0) (rec parts.0 parts.1.0))

out_marks : (attribute : Bool) (state : Option (List ℕ)) (last : ℕ) (bs v : List ℕ) → 190 ≤ last → last ≤ 191 → HasNoMark last bs → resolved_in attribute state bs ≡ Ok v → HasNoMark last v
unfolding resolved_in
out_marks attribute None last [] v le ge none e = subst (HasNoMark last) (ap (bytes_or []) e) none
out_marks attribute (Some name) last [] v le ge none e = absurd cc
out_marks attribute None last (b ∷ bs) v le ge none e =
    let later = (mark_parts last b bs none).1 in
    by_test (b == 38) (λ t. cond {A = Result (List ℕ) Fault} t (resolved_in attribute (Some []) bs) (before (plain_byte attribute b ∷ []) (resolved_in attribute None bs)) ≡ Ok v → HasNoMark last v)
    (λ is k. out_marks attribute (Some []) last bs v le ge later k) (λ not k. plain_marks attribute last b bs v le ge none (λ w j. out_marks attribute None last bs w le ge later j) k) e
out_marks attribute (Some name) last (b ∷ bs) v le ge none e =
    let later = (mark_parts last b bs none).1 in
    by_test (b == 59) (λ t. cond {A = Result (List ℕ) Fault} t (reference_of name >>= λ c. before (encode_utf8 c) (resolved_in attribute None bs)) (resolved_in attribute (Some (name ++ b ∷ [])) bs) ≡ Ok v → HasNoMark last v)
    (λ is k. reference_marks last v (reference_of name) (λ c j. reference_char name c j) (resolved_in attribute None bs) (λ w j. out_marks attribute None last bs w le ge later j) le ge k)
    (λ not k. out_marks attribute (Some (name ++ b ∷ [])) last bs v le ge later k) e

-- ---- printed

plain_printed : (attribute : Bool) (b : ℕ) → is_printed b ≡ true → is_printed (plain_byte attribute b) ≡ true
plain_printed attribute b e = by_test (attribute && is_space b) (λ t. is_printed (cond t 32 b) ≡ true) (λ s. refl) (λ s. e)

joined_printed : (xs ys v : List ℕ) → xs ++ ys ≡ v → list_all is_printed xs ≡ true → list_all is_printed ys ≡ true → list_all is_printed v ≡ true
joined_printed xs ys v e h k = ap (list_all is_printed) (sym e) ∙ list_all-append is_printed xs ys ∙ and_from (list_all is_printed xs) (list_all is_printed ys) h k

reference_printed : (v : List ℕ) (r : Result ℕ Fault) → ((c : ℕ) → r ≡ Ok c → is_char c ≡ true) → (s : Result (List ℕ) Fault) → ((w : List ℕ) → s ≡ Ok w → list_all is_printed w ≡ true)
    → (r >>= λ c. before (encode_utf8 c) s) ≡ Ok v → list_all is_printed v ≡ true
reference_printed v (Err f) one s rec e = absurd cc
reference_printed v (Ok c) one s rec e =
    let parts = before_ok (encode_utf8 c) s v e in
    joined_printed (encode_utf8 c) parts.0 v parts.1.1 (printed c (one c refl)) (rec parts.0 parts.1.0)

out_printed : (attribute : Bool) (state : Option (List ℕ)) (bs v : List ℕ) → list_all is_printed bs ≡ true → resolved_in attribute state bs ≡ Ok v → list_all is_printed v ≡ true
unfolding resolved_in
out_printed attribute None [] v h e = subst (λ (xs : List ℕ). list_all is_printed xs ≡ true) (ap (bytes_or []) e) h
out_printed attribute (Some name) [] v h e = absurd cc
out_printed attribute None (b ∷ bs) v h e =
    let parts = and_parts (is_printed b) (list_all is_printed bs) h in
    by_test (b == 38) (λ t. cond {A = Result (List ℕ) Fault} t (resolved_in attribute (Some []) bs) (before (plain_byte attribute b ∷ []) (resolved_in attribute None bs)) ≡ Ok v → list_all is_printed v ≡ true)
    (λ is k. out_printed attribute (Some []) bs v parts.1 k)
    (λ not k. let found = before_ok (plain_byte attribute b ∷ []) (resolved_in attribute None bs) v k in
    joined_printed (plain_byte attribute b ∷ []) found.0 v found.1.1 (and_from (is_printed (plain_byte attribute b)) true (plain_printed attribute b parts.0) refl) (out_printed attribute None bs found.0 parts.1 found.1.0)) e
out_printed attribute (Some name) (b ∷ bs) v h e =
    let parts = and_parts (is_printed b) (list_all is_printed bs) h in
    by_test (b == 59) (λ t. cond {A = Result (List ℕ) Fault} t (reference_of name >>= λ c. before (encode_utf8 c) (resolved_in attribute None bs)) (resolved_in attribute (Some (name ++ b ∷ [])) bs) ≡ Ok v → list_all is_printed v ≡ true)
    (λ is k. reference_printed v (reference_of name) (λ c j. reference_char name c j) (resolved_in attribute None bs) (λ w j. out_printed attribute None bs w parts.1 j) k)
    (λ not k. out_printed attribute (Some (name ++ b ∷ [])) bs v parts.1 k) e

pub resolved_clean : (attribute : Bool) (bs v : List ℕ) → IsClean bs → resolved attribute bs ≡ Ok v → IsClean v
resolved_clean attribute bs v h e = record {
  printed = out_printed attribute None bs v h.printed e;
  no_fffe = out_marks attribute None 190 bs v (omega arith) (omega arith) h.no_fffe e;
  no_ffff = out_marks attribute None 191 bs v (omega arith) (omega arith) h.no_ffff e;
}
