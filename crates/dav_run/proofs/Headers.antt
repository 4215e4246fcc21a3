-- The text of a reply, by the texts of its parts.
use Rattle.std.proofs.Common.{◌≡◌, ◌++◌, List, [], ◌∷◌, Bool, true, false, true≢false, codes, decimal, refl, sym, ap, ◌∙◌, append_assoc, Ordering, Less, Equal, Greater, nat_cmp}
use Rattle.std.specs.Cmp.Lexicographic.{slice_cmp}
use Rattle.std.specs.Ordering.{match_ordering}
use Rattle.std.specs.Prelude.{ℕ, ◌||◌}
use Rattle.std.specs.Str.Lossy.{utf8_lossy}
use Rattle.json.specs.Print.{escape_byte}
use Rattle.serde_json.specs.Data.{string, Members, no_members, member, put}
use Rattle.serde_json.specs.Written.{compact_text, has_float, members_have_float, members_text}
use Rattle.dav_run.specs.Print.{body_data, headers_data, headers_over, line_of, rest_members}
use Rattle.dav_engine.specs.Reply.{Reply, Header}

neither : (a b : Bool) → (a || b) ≡ false → (a ≡ false) × (b ≡ false)
neither false b h = (refl, h)
neither true b h = absurd (true≢false h)

both : (a b : Bool) → a ≡ false → b ≡ false → (a || b) ≡ false
both false b p q = q
both true b p q = absurd (true≢false p)

among : (o : Ordering) (a b c : Members) → members_have_float a ≡ false → members_have_float b ≡ false
    → members_have_float c ≡ false → members_have_float (match_ordering o a b c) ≡ false
among Less a b c p q r = p
among Equal a b c p q r = q
among Greater a b c p q r = r

-- a text that is put into members adds no fraction
text_put : (k s : List ℕ) (ms : Members) → members_have_float ms ≡ false → members_have_float (put k (string s) ms) ≡ false
text_put k s no_members h = refl
text_put k s (member l e ms) h =
    let parts = neither (has_float e) (members_have_float ms) h in
    among (slice_cmp nat_cmp k l) _ _ _ h parts.1 (both (has_float e) _ parts.0 (text_put k s ms parts.1))

headers_plain : (hs : List Header) (found : Members) → members_have_float found ≡ false
    → members_have_float (headers_over hs found) ≡ false
headers_plain [] found h = h
headers_plain (x ∷ hs) found h = headers_plain hs (put x.0 (string (utf8_lossy x.1)) found) (text_put x.0 (utf8_lossy x.1) found h)

-- the headers as JSON have no fraction
pub no_fraction : (r : Reply) → has_float (headers_data r.headers) ≡ false
no_fraction r = headers_plain r.headers no_members refl

-- what follows the body, by the text of the headers
pub rest_of : (r : Reply) (headers : List ℕ) → headers ≡ compact_text (headers_data r.headers)
    → codes ",\"headers\":" ++ (headers ++ (codes ",\"status\":" ++ (decimal r.status ++ codes "}\n"))) ≡ members_text true (rest_members r) ++ 10 ∷ []
unfolding escape_byte
rest_of r headers is =
    let status = decimal r.status in
    let texts = compact_text (headers_data r.headers) in
    ap (λ (s : List ℕ). codes ",\"headers\":" ++ (s ++ (codes ",\"status\":" ++ (status ++ codes "}\n")))) is
    ∙ ap (λ (s : List ℕ). codes ",\"headers\":" ++ (texts ++ (codes ",\"status\":" ++ s))) (sym (append_assoc status (125 ∷ []) (10 ∷ [])))
    ∙ ap (λ (s : List ℕ). codes ",\"headers\":" ++ s) (sym (append_assoc texts (codes ",\"status\":" ++ (status ++ 125 ∷ [])) (10 ∷ [])))

-- the beginning with the body, and what follows it
pub whole_line : (r : Reply) (begun rest : List ℕ) → begun ≡ codes "{\"body\":" ++ compact_text (body_data r.body) → rest ≡ members_text true (rest_members r) ++ 10 ∷ []
    → begun ++ rest ≡ line_of r
unfolding escape_byte
whole_line r begun rest is same =
    let body = compact_text (body_data r.body) in
    let more = members_text true (rest_members r) in
    ap (λ (s : List ℕ). s ++ rest) is
    ∙ ap (λ (s : List ℕ). (codes "{\"body\":" ++ body) ++ s) same
    ∙ ap (λ (s : List ℕ). codes "{\"body\":" ++ s) (sym (append_assoc body more (10 ∷ [])))
