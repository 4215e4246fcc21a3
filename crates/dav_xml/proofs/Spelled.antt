-- What is written is read again.
use Rattle.std.proofs.Common.{◌≡◌, ℕ, zero, suc, ◌+◌, ◌<◌, ◌≤◌, Bool, true, false, not, cond, ◌==◌, List, [], ◌∷◌, ◌++◌, length, take, drop, codes, Option, Some, None, Result, Ok, Err, refl, sym, ap, ◌∙◌, append_assoc, arith, take_at, drop_at, length-append}
use Rattle.std.proofs.lemmas.Bool.{eq-eqb, and_parts, or_parts}
use Rattle.std.proofs.lemmas.Bool.Decides.{nat_tests}
use Rattle.std.specs.List.{list_any, list_all, prefix_len}
use Rattle.dav_xml.specs.declared.error.Fault.{Fault}
use Rattle.dav_xml.specs.declared.error.Fault.TheVariants.{Malformed}
use Rattle.dav_xml.specs.Read.{◌>>=◌}
use Rattle.dav_xml.specs.Bytes.{is_space, is_name_start, is_name_byte, run, after_space, behind, split_byte, after_text, split_text, found_or, name_after, name_at}
use Rattle.dav_xml.specs.Classes.{is_text}
use Rattle.dav_xml.specs.References.{resolved, utf8}
use Rattle.dav_xml.specs.Token.{Markup, opens, empty, closes, content, nothing}
use Rattle.dav_xml.specs.Markup.{one_and, many, value_of, attribute_at, attributes_at, tag, tag_end, tag_at, close_at, text_from, text_at, token_at, all_of, tokens_of}
use Rattle.dav_xml.specs.Spelling.{escaped_byte, escaped, attribute_spelling, attributes_spelling, spelling, spellings, is_utf8, IsName, IsAttribute, AreAttributes, starts_text, IsSpelled, AreSpelled}
use Rattle.dav_xml.proofs.Escapes.{escape_cases, resolves, lacks_60, lacks_62, lacks_34}

-- a run does not go on there
abbrev pub stops : (ℕ → Bool) → List ℕ → Bool
stops p [] = true
stops p (b ∷ bs) = not (p b)

not_false : (b : Bool) → not b ≡ true → b ≡ false
not_false true e = absurd cc
not_false false e = refl

prefix_len_run : (p : ℕ → Bool) (xs rest : List ℕ) → list_all p xs ≡ true → stops p rest ≡ true → prefix_len p (xs ++ rest) ≡ length xs
prefix_len_run p [] [] all stop = refl
prefix_len_run p [] (b ∷ bs) all stop = rw (not_false (p b) stop) refl
prefix_len_run p (x ∷ xs) rest all stop =
    let parts = and_parts (p x) (list_all p xs) all in
    rw parts.0 (omega (arith, prefix_len_run p xs rest parts.1 stop))

pub run_is : (p : ℕ → Bool) (xs rest : List ℕ) → list_all p xs ≡ true → stops p rest ≡ true → run p (xs ++ rest) ≡ (xs, rest)
run_is p xs rest all stop =
    let n = prefix_len_run p xs rest all stop in
    ap (λ (k : ℕ). (take k (xs ++ rest), drop k (xs ++ rest))) n ∙ rw (take_at xs rest (length xs) refl, drop_at xs rest (length xs) refl) refl

pub split_mark : (q : ℕ) (xs rest : List ℕ) → list_any (λ b. b == q) xs ≡ false → split_byte q (xs ++ q ∷ rest) ≡ Some (xs, rest)
split_mark q [] rest e = ap (λ (t : Bool). cond t (Some ([], rest)) (behind (q ∷ []) (split_byte q rest))) (eq-eqb q q refl)
split_mark q (x ∷ xs) rest e =
    let parts = or_parts (x == q) (list_any (λ b. b == q) xs) e in
    ap (λ (t : Bool). cond t (Some ([], xs ++ q ∷ rest)) (behind (x ∷ []) (split_byte q (xs ++ q ∷ rest)))) parts.0 ∙ ap (behind (x ∷ [])) (split_mark q xs rest parts.1)

both_none : (t : Bool) (o : Option (List ℕ)) → o ≡ None → cond t o None ≡ None
both_none true o e = e
both_none false o e = refl

no_end_here : (xs : List ℕ) → list_any (λ b. b == 62) xs ≡ false → after_text (codes "]]>") xs ≡ None
no_end_here [] e = refl
no_end_here (x ∷ []) e = both_none (x == 93) None refl
no_end_here (x ∷ y ∷ []) e = both_none (x == 93) (cond (y == 93) None None) (both_none (y == 93) None refl)
no_end_here (x ∷ y ∷ z ∷ zs) e =
    let a = or_parts (x == 62) (list_any (λ b. b == 62) (y ∷ z ∷ zs)) e in
    let b = or_parts (y == 62) (list_any (λ b. b == 62) (z ∷ zs)) a.1 in
    let c = or_parts (z == 62) (list_any (λ b. b == 62) zs) b.1 in
    let last : cond (z == 62) (Some zs) None ≡ None = ap (λ (t : Bool). cond t (Some zs) None) c.0 in
    both_none (x == 93) (cond (y == 93) (cond (z == 62) (Some zs) None) None) (both_none (y == 93) (cond (z == 62) (Some zs) None) last)

pub no_end : (xs : List ℕ) → list_any (λ b. b == 62) xs ≡ false → split_text (codes "]]>") xs ≡ None
no_end [] e = refl
no_end (x ∷ xs) e =
    let parts = or_parts (x == 62) (list_any (λ b. b == 62) xs) e in
    ap (λ (o : Option (List ℕ)). found_or o (behind (x ∷ []) (split_text (codes "]]>") xs))) (no_end_here (x ∷ xs) e) ∙ ap (behind (x ∷ [])) (no_end xs parts.1)

pub all_text : (xs : List ℕ) → list_any (λ b. b == 60) xs ≡ false → list_all is_text xs ≡ true
all_text [] e = refl
all_text (x ∷ xs) e =
    let parts = or_parts (x == 60) (list_any (λ b. b == 60) xs) e in
    rw (parts.0, all_text xs parts.1) refl

utf8_again : (bs : List ℕ) → is_utf8 bs ≡ true → utf8 bs ≡ Ok bs
utf8_again bs e = ap (λ (t : Bool). cond t (Ok bs) (Err Malformed)) e

pub name_again : (name rest : List ℕ) → IsName name → stops is_name_byte rest ≡ true → name_at (name ++ rest) ≡ Ok (name, rest)
unfolding name_at
name_again [] rest h stop = absurd cc
name_again (b ∷ bs) rest h stop =
    let parts = and_parts (is_name_start b) (list_all is_name_byte (b ∷ bs)) h.0 in
    ap name_after (run_is is_name_byte (b ∷ bs) rest parts.1 stop) ∙ ap (λ (t : Bool). cond t (Ok (b ∷ bs, rest)) (Err Malformed)) parts.0

-- a name is no white space
start_no_space : (b : ℕ) → is_name_start b ≡ true → not (is_space b) ≡ true
start_no_space b e = grind (arith, nat_tests)

name_stops : (name rest : List ℕ) → IsName name → stops is_space (name ++ rest) ≡ true
name_stops [] rest h = absurd cc
name_stops (b ∷ bs) rest h = start_no_space b (and_parts (is_name_start b) (list_all is_name_byte (b ∷ bs)) h.0).0

after_one_space : (rest : List ℕ) → stops is_space rest ≡ true → after_space (32 ∷ rest) ≡ rest
after_one_space rest stop = ap (λ (p : List ℕ × List ℕ). p.1) (run_is is_space (32 ∷ []) rest refl stop)

value_again : (v : List ℕ) → is_utf8 v ≡ true → value_of (escaped true v) ≡ Ok v
value_again v e =
    ap (λ (t : Bool). cond t (Err Malformed) (resolved true (escaped true v) >>= utf8)) (lacks_60 true v) ∙ ap (λ (r : Result (List ℕ) Fault). r >>= utf8) (resolves true v) ∙ utf8_again v e

pub attribute_again : (a : List ℕ × List ℕ) (rest : List ℕ) → IsAttribute a → attribute_at (attribute_spelling a ++ rest) ≡ Ok (a, rest)
unfolding attribute_at
attribute_again a rest h =
    let value = escaped true a.1 in
    let behind_name : List ℕ = 61 ∷ 34 ∷ (value ++ 34 ∷ rest) in
    let regrouped : attribute_spelling a ++ rest ≡ 32 ∷ (a.0 ++ behind_name) = ap (λ (t : List ℕ). 32 ∷ t) (append_assoc a.0 (61 ∷ 34 ∷ (value ++ 34 ∷ [])) rest ∙ ap (λ (t : List ℕ). a.0 ++ 61 ∷ 34 ∷ t) (append_assoc value (34 ∷ []) rest)) in
    ap attribute_at regrouped
    ∙ rw (after_one_space (a.0 ++ behind_name) (name_stops a.0 behind_name h.name), name_again a.0 behind_name h.name refl, split_mark 34 value rest (lacks_34 true a.1), utf8_again a.0 h.name.1, value_again a.1 h.value) refl

pub attributes_again : (attributes : List (List ℕ × List ℕ)) (n : ℕ) (end : List ℕ) → AreAttributes attributes → attribute_at end ≡ Err Malformed → length attributes ≤ n
    → many attribute_at n (attributes_spelling attributes ++ end) ≡ (attributes, end)
unfolding many attributes_spelling
attributes_again [] zero end h e le = refl
attributes_again [] (suc n) end h e le = ap (λ (r : Result ((List ℕ × List ℕ) × List ℕ) Fault). one_and r end (many attribute_at n)) e
attributes_again (a ∷ others) zero end h e le = absurd (omega arith)
attributes_again (a ∷ others) (suc n) end h e le =
    let rest : List ℕ = attributes_spelling others ++ end in
    let regrouped : attributes_spelling (a ∷ others) ++ end ≡ attribute_spelling a ++ rest = append_assoc (attribute_spelling a) (attributes_spelling others) end in
    ap (many attribute_at (suc n)) regrouped ∙ ap (λ (r : Result ((List ℕ × List ℕ) × List ℕ) Fault). one_and r (attribute_spelling a ++ rest) (many attribute_at n)) (attribute_again a rest h.0)
    ∙ ap (λ (p : List (List ℕ × List ℕ) × List ℕ). (a ∷ p.0, p.1)) (attributes_again others n end h.1 e (omega arith))

attributes_long : (attributes : List (List ℕ × List ℕ)) (end : List ℕ) → length attributes ≤ length (attributes_spelling attributes ++ end)
unfolding attributes_spelling
attributes_long [] end = omega arith
attributes_long (a ∷ others) end =
    let more = attributes_long others end in
    let whole : length (attributes_spelling (a ∷ others) ++ end) ≡ length (attribute_spelling a) + length (attributes_spelling others ++ end) = ap length (append_assoc (attribute_spelling a) (attributes_spelling others) end) ∙ length-append (attribute_spelling a) (attributes_spelling others ++ end) in
    omega (arith, more, whole)

attributes_stop : (attributes : List (List ℕ × List ℕ)) (end : List ℕ) → stops is_name_byte end ≡ true → stops is_name_byte (attributes_spelling attributes ++ end) ≡ true
unfolding attributes_spelling
attributes_stop [] end e = e
attributes_stop (a ∷ others) end e = refl

pub tag_again : (name : List ℕ) (attributes : List (List ℕ × List ℕ)) (end rest : List ℕ) (is_empty : Bool) → IsName name → AreAttributes attributes
    → attribute_at end ≡ Err Malformed → stops is_name_byte end ≡ true → tag_end (after_space end) ≡ Ok (is_empty, rest)
    → tag_at (name ++ (attributes_spelling attributes ++ end)) ≡ Ok (tag name attributes is_empty, rest)
unfolding tag_at
tag_again name attributes end rest is_empty h hs e stop ended =
    let behind_name : List ℕ = attributes_spelling attributes ++ end in
    let found : attributes_at behind_name ≡ (attributes, end) = attributes_again attributes (length behind_name) end hs e (attributes_long attributes end) in
    rw (name_again name behind_name h (attributes_stop attributes end stop), found, ended, utf8_again name h.1) refl

open_first : (b : ℕ) (rest : List ℕ) → is_name_start b ≡ true → token_at (60 ∷ b ∷ rest) ≡ tag_at (b ∷ rest)
unfolding token_at
open_first b rest e =
    let n33 : (b == 33) ≡ false = grind (arith, nat_tests) in
    let n63 : (b == 63) ≡ false = grind (arith, nat_tests) in
    let n47 : (b == 47) ≡ false = grind (arith, nat_tests) in
    rw (n33, n63, n47) refl

pub tag_first : (name rest : List ℕ) → IsName name → token_at (60 ∷ (name ++ rest)) ≡ tag_at (name ++ rest)
tag_first [] rest h = absurd cc
tag_first (b ∷ bs) rest h = open_first b (bs ++ rest) (and_parts (is_name_start b) (list_all is_name_byte (b ∷ bs)) h.0).0

-- ---- pieces

abbrev AddsNothing : List ℕ → ℕ → Type 0
AddsNothing bytes b = 0 < length bytes

byte_long : (attribute : Bool) (b : ℕ) → 0 < length (escaped_byte attribute b)
byte_long attribute = escape_cases attribute AddsNothing (omega arith) (omega arith) (omega arith) (omega arith) (omega arith) (omega arith) (omega arith) (λ b p. omega arith)

escaped_long : (attribute : Bool) (b : ℕ) (bs : List ℕ) → 0 < length (escaped attribute (b ∷ bs))
unfolding escaped
escaped_long attribute b bs = omega (arith, byte_long attribute b, length-append (escaped_byte attribute b) (escaped attribute bs))

text_first : (xs rest : List ℕ) → 0 < length xs → list_any (λ b. b == 60) xs ≡ false → (token_at (xs ++ rest) ≡ text_at (xs ++ rest)) × ((length (xs ++ rest) == 0) ≡ false)
unfolding token_at
text_first [] rest long e = absurd (omega arith)
text_first (x ∷ xs) rest long e =
    let n60 = (or_parts (x == 60) (list_any (λ b. b == 60) xs) e).0 in
    (rw n60 refl, grind (arith, nat_tests))

text_parts : (text rest value : List ℕ) (at_end : Bool) → at_end ≡ false → split_text (codes "]]>") text ≡ None → resolved false text ≡ Ok value → utf8 value ≡ Ok value
    → text_from at_end (text, rest) ≡ Ok (content (list_all is_space text) value, rest)
text_parts text rest value at_end e n r u = rw (e, n, r, u) refl

text_again : (b : ℕ) (bs rest : List ℕ) → is_utf8 (b ∷ bs) ≡ true → stops is_text rest ≡ true → token_at (escaped false (b ∷ bs) ++ rest) ≡ Ok (content (list_all is_space (escaped false (b ∷ bs))) (b ∷ bs), rest)
unfolding text_at
text_again b bs rest u stop =
    let text : List ℕ = escaped false (b ∷ bs) in
    let first = text_first text rest (escaped_long false b bs) (lacks_60 false (b ∷ bs)) in
    first.0 ∙ ap (text_from (length (text ++ rest) == 0)) (run_is is_text text rest (all_text text (lacks_60 false (b ∷ bs))) stop)
    ∙ text_parts text rest (b ∷ bs) (length (text ++ rest) == 0) first.1 (no_end text (lacks_62 false (b ∷ bs))) (resolves false (b ∷ bs)) (utf8_again (b ∷ bs) u)

close_again : (name rest : List ℕ) → IsName name → close_at (name ++ (62 ∷ rest)) ≡ Ok (closes name, rest)
unfolding close_at
close_again name rest h = rw (name_again name (62 ∷ rest) h refl, utf8_again name h.1) refl

close_first : (bytes : List ℕ) → token_at (60 ∷ 47 ∷ bytes) ≡ close_at bytes
unfolding token_at
close_first bytes = refl

no_attribute : (b : ℕ) (rest : List ℕ) → is_space b ≡ false → attribute_at (b ∷ rest) ≡ Err Malformed
unfolding attribute_at
no_attribute b rest e = rw e refl

-- no text comes next
next_stops : (ts : List Markup) → AreSpelled ts → starts_text ts ≡ false → stops is_text (spellings ts) ≡ true
unfolding spellings
next_stops [] h e = refl
next_stops (opens name attributes ∷ ts) h e = refl
next_stops (empty name attributes ∷ ts) h e = refl
next_stops (closes name ∷ ts) h e = refl
next_stops (content is_blank bytes ∷ ts) h e = absurd cc
next_stops (nothing ∷ ts) h e = absurd h.0

pub token_again : (t : Markup) (ts : List Markup) → IsSpelled t ts → AreSpelled ts → token_at (spelling t ++ spellings ts) ≡ Ok (t, spellings ts)
token_again (opens name attributes) ts h hs =
    let rest = spellings ts in
    let inside : List ℕ = attributes_spelling attributes ++ 62 ∷ rest in
    let regrouped : spelling (opens name attributes) ++ rest ≡ 60 ∷ (name ++ inside) = ap (λ (t : List ℕ). 60 ∷ t) (append_assoc name (attributes_spelling attributes ++ 62 ∷ []) rest ∙ ap (λ (t : List ℕ). name ++ t) (append_assoc (attributes_spelling attributes) (62 ∷ []) rest)) in
    ap token_at regrouped ∙ tag_first name inside h.0 ∙ tag_again name attributes (62 ∷ rest) rest false h.0 h.1 (no_attribute 62 rest refl) refl refl
token_again (empty name attributes) ts h hs =
    let rest = spellings ts in
    let inside : List ℕ = attributes_spelling attributes ++ 47 ∷ 62 ∷ rest in
    let regrouped : spelling (empty name attributes) ++ rest ≡ 60 ∷ (name ++ inside) = ap (λ (t : List ℕ). 60 ∷ t) (append_assoc name (attributes_spelling attributes ++ 47 ∷ 62 ∷ []) rest ∙ ap (λ (t : List ℕ). name ++ t) (append_assoc (attributes_spelling attributes) (47 ∷ 62 ∷ []) rest)) in
    ap token_at regrouped ∙ tag_first name inside h.0 ∙ tag_again name attributes (47 ∷ 62 ∷ rest) rest true h.0 h.1 (no_attribute 47 (62 ∷ rest) refl) refl refl
token_again (closes name) ts h hs =
    let rest = spellings ts in
    let regrouped : spelling (closes name) ++ rest ≡ 60 ∷ 47 ∷ (name ++ 62 ∷ rest) = ap (λ (t : List ℕ). 60 ∷ 47 ∷ t) (append_assoc name (62 ∷ []) rest) in
    ap token_at regrouped ∙ close_first (name ++ 62 ∷ rest) ∙ close_again name rest h
token_again (content is_blank []) ts h hs = absurd h
token_again (content is_blank (b ∷ bs)) ts h hs =
    text_again b bs (spellings ts) h.utf8 (next_stops ts hs h.alone) ∙ ap (λ (t : Bool). Ok (content t (b ∷ bs), spellings ts)) (sym h.blank)
token_again nothing ts h hs = absurd h

nothing_left : token_at [] ≡ Err Malformed
unfolding token_at text_at
nothing_left = refl

tokens_again : (ts : List Markup) (n : ℕ) → AreSpelled ts → length ts ≤ n → many token_at n (spellings ts) ≡ (ts, [])
unfolding many spellings
tokens_again [] zero h le = refl
tokens_again [] (suc n) h le = ap (λ (r : Result (Markup × List ℕ) Fault). one_and r [] (many token_at n)) nothing_left
tokens_again (t ∷ ts) zero h le = absurd (omega arith)
tokens_again (t ∷ ts) (suc n) h le =
    ap (λ (r : Result (Markup × List ℕ) Fault). one_and r (spelling t ++ spellings ts) (many token_at n)) (token_again t ts h.0 h.1)
    ∙ ap (λ (p : List Markup × List ℕ). (t ∷ p.0, p.1)) (tokens_again ts n h.1 (omega arith))

piece_long : (t : Markup) (ts : List Markup) → IsSpelled t ts → 0 < length (spelling t)
piece_long (opens name attributes) ts h = omega arith
piece_long (empty name attributes) ts h = omega arith
piece_long (closes name) ts h = omega arith
piece_long (content is_blank []) ts h = absurd h
piece_long (content is_blank (b ∷ bs)) ts h = escaped_long false b bs
piece_long nothing ts h = absurd h

pieces_long : (ts : List Markup) → AreSpelled ts → length ts ≤ length (spellings ts)
unfolding spellings
pieces_long [] h = omega arith
pieces_long (t ∷ ts) h = omega (arith, piece_long t ts h.0, pieces_long ts h.1, length-append (spelling t) (spellings ts))

pub all_again : (ts : List Markup) → AreSpelled ts → tokens_of (spellings ts) ≡ Ok ts
unfolding tokens_of
all_again ts h = ap all_of (tokens_again ts (length (spellings ts)) h (pieces_long ts h))
