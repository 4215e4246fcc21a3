-- Which heads are those of a GET or HEAD without a body, by their bytes.
use Rattle.std.proofs.Common.{◌≡◌, ◌≢◌, ◌<◌, ◌⊎◌, ◌+◌, ◌∷◌, ◌++◌, ◌∙◌, ℕ, Bool, true, false, List, [], length, map, take, drop, get_or, codes, None, append-nil, arith, refl, sym, ap, subst, append_assoc, length-append, inl, inr, true≢false}
use Rattle.std.specs.List.{filter, flat_map, slice_get}
use Rattle.std.specs.Char.{to_ascii_lowercase}
use Rattle.std.proofs.lemmas.List.{length-map, take-append-drop}
use Rattle.std.proofs.Math.Seq.{drop-append-add, take-append_seam}
use Rattle.std.proofs.lemmas.Slice.Eq.{bytes_eq-Decides}
use Rattle.httparse.specs.Grammar.{Field, LineEnd, RequestHead, crlf, lf, is_token_byte, IsToken, print_blank, print_end, print_field, print_request, print_section, print_version}
use Rattle.httparse.specs.Spans.{name_and_value}
use Rattle.httparse.proofs.GrammarLemmas.{cons-append, print_request-append}
use Rattle.dav_headers.specs.Cut.{IsWithout}
use Rattle.dav_headers.proofs.CutLemmas.{IsWithout-cons, IsWithout-nil, cut_one}
use Rattle.dav_server.specs.Head.{IsHead, Request, is_same_name}
use Rattle.dav_live.specs.Hosts.{value_of}
use Rattle.dav_live.specs.Rejections.{HasLine, IsPlainRead}

-- ---- a line

-- names that are the same have as many bytes
same_length : (a b : List ℕ) → is_same_name a b ≡ true → length a ≡ length b
same_length a b is =
    let lower : map to_ascii_lowercase a ≡ map to_ascii_lowercase b = (bytes_eq-Decides (map to_ascii_lowercase a) (map to_ascii_lowercase b)).0 is in
    sym (length-map a to_ascii_lowercase) ∙ ap length lower ∙ length-map b to_ascii_lowercase

-- what follows a byte
after_byte : (before after : List ℕ) (b : ℕ) → drop (length before + 1) (before ++ b ∷ after) ≡ after
after_byte before after b = drop-append-add before (b ∷ after) 1

at_byte : (before after : List ℕ) (b : ℕ) → get_or (before ++ b ∷ after) (length before) 0 ≡ b
at_byte [] after b = refl
at_byte (x ∷ before) after b = at_byte before after b

within : (before after : List ℕ) (b : ℕ) → length before < length (before ++ b ∷ after)
within before after b = omega (arith, length-append before (b ∷ after))

-- a line that begins with a name is one
line_at : (before written more name : List ℕ) → is_same_name written name ≡ true → HasLine (before ++ 10 ∷ (written ++ more)) name
line_at before written more name same =
    let len : length written ≡ length name = same_length written name same in
    let front : take (length name) (drop (length before + 1) (before ++ 10 ∷ (written ++ more))) ≡ written =
    ap (take (length name)) (after_byte before (written ++ more) 10) ∙ ap (λ (n : ℕ). take n (written ++ more)) (sym len) ∙ take-append_seam written more in
    (length before, within before (written ++ more) 10, at_byte before (written ++ more) 10, subst (λ (t : List ℕ). is_same_name t name ≡ true) (sym front) same)

-- the bytes of a line end, before its line feed
before_feed : LineEnd → List ℕ
before_feed crlf = 13 ∷ []
before_feed lf = []

end_is : (e : LineEnd) (rest : List ℕ) → print_end e ++ rest ≡ before_feed e ++ 10 ∷ rest
unfolding before_feed
end_is crlf rest = refl
end_is lf rest = refl

-- the bytes of a field before its line feed
field_bytes : Field → List ℕ
field_bytes f = f.name ++ 58 ∷ (f.raw ++ before_feed f.end)

line_is : (name raw before rest : List ℕ) (e : LineEnd) → before ++ 10 ∷ (((name ++ 58 ∷ raw) ++ print_end e) ++ rest) ≡ (before ++ 10 ∷ (name ++ 58 ∷ (raw ++ before_feed e))) ++ 10 ∷ rest
unfolding before_feed
line_is name raw before rest crlf = simp (append_assoc, cons-append)
line_is name raw before rest lf = simp (append_assoc, cons-append, append-nil)

field_text : (name raw end more : List ℕ) → ((name ++ 58 ∷ raw) ++ end) ++ more ≡ name ++ 58 ∷ (raw ++ (end ++ more))
field_text name raw end more = simp (append_assoc, cons-append)

-- where no line begins with a name, no field has it
no_field : (fields : List Field) (before rest name : List ℕ) → ¬ HasLine (before ++ 10 ∷ (flat_map print_field fields ++ rest)) name
    → filter (λ (field : List ℕ × List ℕ). is_same_name field.0 name) (map name_and_value fields) ≡ []
no_field [] before rest name none = refl
no_field (f ∷ fields) before rest name none =
    let more : List ℕ = flat_map print_field fields ++ rest in
    let whole : before ++ 10 ∷ ((print_field f ++ flat_map print_field fields) ++ rest) ≡ before ++ 10 ∷ (print_field f ++ more) = ap (λ (t : List ℕ). before ++ 10 ∷ t) (append_assoc (print_field f) (flat_map print_field fields) rest) in
    let other : is_same_name f.name name ≢ true = λ same.
    none (subst (λ (t : List ℕ). HasLine t name)
    (sym (whole ∙ ap (λ (t : List ℕ). before ++ 10 ∷ t) (field_text f.name f.raw (print_end f.end) more)))
    (line_at before f.name (58 ∷ (f.raw ++ (print_end f.end ++ more))) name same)) in
    let later = no_field fields (before ++ 10 ∷ (f.name ++ 58 ∷ (f.raw ++ before_feed f.end))) rest name
    (λ has. none (subst (λ (t : List ℕ). HasLine t name) (sym (whole ∙ line_is f.name f.raw before more f.end)) has)) in
    by_test (is_same_name f.name name) refl other later
  where
    by_test : (b : Bool) → is_same_name f.name name ≡ b → is_same_name f.name name ≢ true
        → filter (λ (field : List ℕ × List ℕ). is_same_name field.0 name) (map name_and_value fields) ≡ []
        → filter (λ (field : List ℕ × List ℕ). is_same_name field.0 name) (map name_and_value (f ∷ fields)) ≡ []
    by_test true is other later = absurd (other is)
    by_test false is other later = rw is later

-- ---- the method

-- what comes before the first space
no_space : (text : List ℕ) → IsToken text → IsWithout 32 text
unfolding is_token_byte
no_space text is i within same =
    let token : is_token_byte 32 ≡ true = subst (λ (b : ℕ). is_token_byte b ≡ true) same (is.1 i 0 within) in absurd (true≢false (sym token))

first_word : (blank : List LineEnd) (method more rest : List ℕ) (b : ℕ) (bs : List ℕ) → IsToken method → IsWithout 32 (b ∷ bs) → b ≢ 13 → b ≢ 10
    → (print_blank blank ++ (method ++ 32 ∷ rest)) ≡ b ∷ bs ++ 32 ∷ more → method ≡ b ∷ bs
first_word [] method more rest b bs is free no_return no_feed same = (cut_one 32 method rest (b ∷ bs) more same (no_space method is) free).0
first_word (crlf ∷ ends) method more rest b bs is free no_return no_feed same = absurd (no_return (cc))
first_word (lf ∷ ends) method more rest b bs is free no_return no_feed same = absurd (no_feed (cc))

section_at : (bytes : List ℕ) (h : RequestHead) → bytes ≡ print_request h ++ [] → (before : List ℕ) × (rest : List ℕ) × (bytes ≡ before ++ 10 ∷ (flat_map print_field h.fields ++ rest))
section_at bytes h is = (
  print_blank h.blank ++ (h.method ++ 32 ∷ (h.target ++ 32 ∷ (print_version h.minor ++ before_feed h.line_end))),
  print_end h.last ++ [],
  is ∙ print_request-append h []
      ∙ ap (λ (t : List ℕ). print_blank h.blank ++ (h.method ++ 32 ∷ (h.target ++ 32 ∷ (print_version h.minor ++ t)))) (end_is h.line_end (print_section h.fields h.last ++ []))
      ∙ regroup (print_blank h.blank) h.method h.target (print_version h.minor) (before_feed h.line_end) (flat_map print_field h.fields) (print_end h.last),
)
  where
    regroup : (a m t v e f l : List ℕ) → a ++ (m ++ 32 ∷ (t ++ 32 ∷ (v ++ (e ++ 10 ∷ ((f ++ l) ++ []))))) ≡ (a ++ (m ++ 32 ∷ (t ++ 32 ∷ (v ++ e)))) ++ 10 ∷ (f ++ (l ++ []))
    regroup a m t v e f l = simp append_assoc

-- a name of a method that is a front of the bytes, with a space after it, is that of the head
method_at : (bytes : List ℕ) (h : RequestHead) (n b : ℕ) (bs : List ℕ) → IsToken h.method → IsWithout 32 (b ∷ bs) → b ≢ 13 → b ≢ 10 → bytes ≡ print_request h ++ []
    → take n bytes ≡ b ∷ bs ++ 32 ∷ [] → h.method ≡ b ∷ bs
method_at bytes h n b bs is free no_return no_feed whole front =
    let begins : bytes ≡ (b ∷ bs ++ 32 ∷ []) ++ drop n bytes = sym (take-append-drop n bytes) ∙ ap (λ (t : List ℕ). t ++ drop n bytes) front in
    first_word h.blank h.method (drop n bytes) _ b bs is free no_return no_feed
    (sym (print_request-append h []) ∙ sym whole ∙ begins ∙ append_assoc (b ∷ bs) (32 ∷ []) (drop n bytes))

no_space_get : IsWithout 32 (codes "GET")
no_space_get =
    IsWithout-cons 32 71 (69 ∷ 84 ∷ []) (λ e. absurd (omega (arith, e)))
    (IsWithout-cons 32 69 (84 ∷ []) (λ e. absurd (omega (arith, e))) (IsWithout-cons 32 84 [] (λ e. absurd (omega (arith, e))) (IsWithout-nil 32)))

no_space_head : IsWithout 32 (codes "HEAD")
no_space_head =
    IsWithout-cons 32 72 (69 ∷ 65 ∷ 68 ∷ []) (λ e. absurd (omega (arith, e)))
    (IsWithout-cons 32 69 (65 ∷ 68 ∷ []) (λ e. absurd (omega (arith, e)))
    (IsWithout-cons 32 65 (68 ∷ []) (λ e. absurd (omega (arith, e))) (IsWithout-cons 32 68 [] (λ e. absurd (omega (arith, e))) (IsWithout-nil 32))))

pub is_plain : (bytes : List ℕ) (r : Request) → IsHead bytes r → (take 4 bytes ≡ codes "GET ") ⊎ (take 5 bytes ≡ codes "HEAD ") → ¬ HasLine bytes (codes "content-length")
    → ¬ HasLine bytes (codes "transfer-encoding") → IsPlainRead r
is_plain bytes r (_, h, reads, _, is) begins no_length no_coding =
    let (before, rest, at) = section_at bytes h reads.1 in
    let none : (name : List ℕ) → ¬ HasLine bytes name → value_of name r ≡ None = λ name no.
    ap (λ (q : Request). value_of name q) is ∙ ap (λ (fields : List (List ℕ × List ℕ)). slice_get (map (λ (field : List ℕ × List ℕ). field.1) fields) 0)
    (no_field h.fields before rest name (subst (λ (t : List ℕ). ¬ HasLine t name) at no)) in
    record {
      method = elim begins [
        | inl get ↦ inl (ap (λ (q : Request). q.method) is ∙ method_at bytes h 4 71 (69 ∷ 84 ∷ []) reads.0.method no_space_get (λ e. absurd (omega (arith, e))) (λ e. absurd (omega (arith, e))) reads.1 get)
        | inr heads ↦ inr (ap (λ (q : Request). q.method) is ∙ method_at bytes h 5 72 (69 ∷ 65 ∷ 68 ∷ []) reads.0.method no_space_head (λ e. absurd (omega (arith, e))) (λ e. absurd (omega (arith, e))) reads.1 heads)
      ];
      no_length = none (codes "content-length") no_length;
      no_coding = none (codes "transfer-encoding") no_coding;
    }
