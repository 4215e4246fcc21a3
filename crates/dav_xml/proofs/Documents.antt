-- What is written behind the declaration is read again.
use Rattle.std.proofs.Common.{◌≡◌, ℕ, zero, suc, ◌≤◌, Bool, true, false, not, cond, ◌&&◌, ◌==◌, ltb, List, [], ◌∷◌, ◌++◌, length, codes, Some, None, Result, Ok, Err, refl, sym, ap, subst, ◌∙◌, append_assoc, arith}
use Rattle.std.proofs.lemmas.Bool.{le-ltb, or_parts, and_right}
use Rattle.std.proofs.lemmas.List.{append-nil}
use Rattle.std.proofs.lemmas.List.Folds.{list_any-append}
use lib.Utf8.{encode}
use Rattle.std.specs.List.{list_any, AllByRecursion}
use Rattle.dav_core.specs.Element.{ElementTree, ElementTrees, element, text, no_trees, tree_then}
use Rattle.dav_xml.specs.declared.error.Fault.{Fault}
use Rattle.dav_xml.specs.declared.error.Fault.TheVariants.{Malformed, TooLarge}
use Rattle.dav_xml.specs.Read.{◌>>=◌}
use Rattle.dav_xml.specs.Bytes.{after_space}
use Rattle.dav_xml.specs.Token.{Markup, closes, content}
use Rattle.dav_xml.specs.Markup.{many, attribute_at, attributes_at, tokens_of}
use Rattle.dav_xml.specs.Spelling.{escaped, attributes_spelling, spellings, IsName, IsAttribute, AreAttributes, starts_text, AreSpelled}
use Rattle.dav_xml.specs.Nesting.{steps, nested}
use Rattle.dav_xml.specs.Flat.{flat, flats, IsRaw, AreRaw}
use Rattle.dav_xml.specs.Front.{is_declaration, lines, are_chars, after_mark, tells, after_declaration, raw_document}
use Rattle.dav_xml.specs.Written.{declaration}
use Rattle.dav_xml.specs.Legal.{IsLegal, IsLegalName, IsLegalAttribute, HasLegal, HaveLegal}
use Rattle.dav_xml.proofs.Legal.{legal_chars, legal_utf8}
use Rattle.dav_xml.proofs.LegalTrees.{legal_append, legal_one, legal_word, legal_tree, tree_no_return, HasNoReturn}
use Rattle.dav_xml.proofs.Spelled.{attributes_again, all_again}
use Rattle.dav_xml.proofs.Nested.{nested_again}

-- ---- pieces of a tree

legal_name : (name : List ℕ) → IsLegalName name → IsName name
legal_name name h = (h.name, legal_utf8 name h.legal)

legal_attributes : (attributes : List (List ℕ × List ℕ)) → AllByRecursion IsLegalAttribute attributes → AreAttributes attributes
legal_attributes [] h = tt
legal_attributes (a ∷ others) h = (record { name = legal_name a.0 h.0.name; value = legal_utf8 a.1 h.0.value }, legal_attributes others h.1)

-- no text follows a text
no_text_next : (n : ℕ) (us : ElementTrees) (rest : List Markup) → AreRaw n true us → starts_text rest ≡ false → starts_text (flats us ++ rest) ≡ false
no_text_next n no_trees rest h e = e
no_text_next n (tree_then (element name prefix namespace attributes no_trees) us) rest h e = refl
no_text_next n (tree_then (element name prefix namespace attributes (tree_then t ts)) us) rest h e = refl
no_text_next n (tree_then (text bytes) us) rest h e = absurd h

around : (name : List ℕ) (attributes : List (List ℕ × List ℕ)) (children : ElementTrees) (rest : List Markup) → IsLegalName name → AllByRecursion IsLegalAttribute attributes → AreSpelled rest
    → AreSpelled (flats children ++ (closes name ∷ rest)) → AreSpelled (flat (element name None None attributes children) ++ rest)
around name attributes no_trees rest h hs others inner = ((legal_name name h, legal_attributes attributes hs), others)
around name attributes (tree_then t ts) rest h hs others inner =
    ((legal_name name h, legal_attributes attributes hs), subst AreSpelled (sym (append_assoc (flats (tree_then t ts)) (closes name ∷ []) rest)) inner)

spelled_flats : (n : ℕ) (us : ElementTrees) (texted : Bool) (rest : List Markup) → AreRaw n texted us → HaveLegal us → AreSpelled rest → starts_text rest ≡ false → AreSpelled (flats us ++ rest)
spelled_flats n no_trees texted rest h k others e = others
spelled_flats zero (tree_then (element m p s a c) us) texted rest h k others e = absurd h.0
spelled_flats (suc n) (tree_then (element m None None a c) us) texted rest h k others e =
    let more = spelled_flats (suc n) us false rest h.1 k.1 others e in
    let inner = spelled_flats n c false (closes m ∷ (flats us ++ rest)) h.0 k.0.1.1 (legal_name m k.0.0, more) refl in
    subst AreSpelled (sym (append_assoc (flat (element m None None a c)) (flats us) rest)) (around m a c (flats us ++ rest) k.0.0 k.0.1.0 more inner)
spelled_flats (suc n) (tree_then (element m None (Some q) a c) us) texted rest h k others e = absurd h.0
spelled_flats (suc n) (tree_then (element m (Some p) q a c) us) texted rest h k others e = absurd h.0
spelled_flats n (tree_then (text bytes) us) true rest h k others e = absurd h
spelled_flats n (tree_then (text []) us) false rest h k others e = absurd h
spelled_flats n (tree_then (text (b ∷ bs)) us) false rest h k others e =
    (record { utf8 = legal_utf8 (b ∷ bs) k.0; alone = no_text_next n us rest h e; blank = refl }, spelled_flats n us true rest h k.1 others e)

no_text_first : (name : List ℕ) (attributes : List (List ℕ × List ℕ)) (children : ElementTrees) → starts_text (flat (element name None None attributes children)) ≡ false
no_text_first name attributes no_trees = refl
no_text_first name attributes (tree_then t ts) = refl

-- the pieces of a tree behind a line feed
abbrev fed : ElementTree → List Markup
fed t = content true (10 ∷ []) ∷ flat t

feed : (t : ElementTree) → AreSpelled (flat t) → starts_text (flat t) ≡ false → AreSpelled (fed t)
unfolding escaped
feed t h e = (record { utf8 = legal_utf8 (10 ∷ []) (legal_one 10 (omega arith) refl); alone = e; blank = refl }, h)

fed_spelled : (n : ℕ) (t : ElementTree) → IsRaw n t → HasLegal t → AreSpelled (fed t)
fed_spelled zero (element name prefix namespace attributes children) h k = absurd h
fed_spelled zero (text bytes) h k = absurd h
fed_spelled (suc n) (text bytes) h k = absurd h
fed_spelled (suc n) (element name None (Some q) attributes children) h k = absurd h
fed_spelled (suc n) (element name (Some p) q attributes children) h k = absurd h
fed_spelled (suc n) (element name None None attributes children) h k =
    let t = element name None None attributes children in
    let inner = spelled_flats n children false (closes name ∷ []) h k.1.1 (legal_name name k.0, tt) refl in
    feed t (subst AreSpelled (append-nil (flat t)) (around name attributes children [] k.0 k.1.0 tt inner)) (no_text_first name attributes children)

fed_nested : (t : ElementTree) → nested (fed t) ≡ nested (flat t)
unfolding nested steps
fed_nested t = refl

fed_spells : (t : ElementTree) → spellings (fed t) ≡ 10 ∷ spellings (flat t)
unfolding spellings escaped
fed_spells t = refl

-- ---- the declaration

abbrev told : List (List ℕ × List ℕ)
told = (codes "version", codes "1.0") ∷ (codes "encoding", codes "utf-8") ∷ []

abbrev telling : List ℕ
telling = codes " version=\"1.0\" encoding=\"utf-8\""

told_spells : attributes_spelling told ++ [] ≡ telling
unfolding attributes_spelling escaped
told_spells = refl

no_more : attribute_at [] ≡ Err Malformed
unfolding attribute_at
no_more = refl

told_is : attributes_at telling ≡ (told, [])
told_is =
    let version : IsAttribute (codes "version", codes "1.0") = record { name = (refl, legal_utf8 (codes "version") (legal_word (codes "version") refl)); value = legal_utf8 (codes "1.0") (legal_word (codes "1.0") refl) } in
    let encoding : IsAttribute (codes "encoding", codes "utf-8") = record { name = (refl, legal_utf8 (codes "encoding") (legal_word (codes "encoding") refl)); value = legal_utf8 (codes "utf-8") (legal_word (codes "utf-8") refl) } in
    ap (many attribute_at (length telling)) (sym told_spells) ∙ attributes_again told (length telling) [] (version, (encoding, tt)) no_more (omega arith)

telling_tells : tells telling ≡ true
telling_tells = ap (λ (found : List (List ℕ × List ℕ) × List ℕ). (not (list_any (λ b. b == 38) telling) && is_declaration found.0) && length (after_space found.1) == 0) told_is

past : (rest : List ℕ) → after_declaration (declaration ++ rest) ≡ Ok (10 ∷ rest)
unfolding after_declaration
past rest = ap (λ (t : Bool). cond t (Ok (10 ∷ rest)) (Err Malformed)) telling_tells

legal_declaration : IsLegal declaration
unfolding encode
legal_declaration = record { characters = declaration; legal = refl; spelled = refl }

-- ---- the whole

unlined : (bs : List ℕ) → HasNoReturn bs → lines false bs ≡ bs
unfolding lines
unlined [] e = refl
unlined (b ∷ bs) e =
    let parts = or_parts (b == 13) (list_any (λ b. b == 13) bs) e in
    ap (λ (t : Bool). cond t (10 ∷ lines true bs) (cond (b == 10 && false) (lines false bs) (b ∷ lines false bs))) parts.0
    ∙ ap (λ (t : Bool). cond t (lines false bs) (b ∷ lines false bs)) (and_right (b == 10) false refl) ∙ ap (λ (xs : List ℕ). b ∷ xs) (unlined bs parts.1)

document_no_return : (t : ElementTree) → HasLegal t → HasNoReturn (declaration ++ spellings (flat t))
document_no_return t h = list_any-append (λ b. b == 13) declaration (spellings (flat t)) ∙ tree_no_return t h

pub raw_again : (t : ElementTree) → IsRaw 64 t → HasLegal t → length (declaration ++ spellings (flat t)) ≤ 0x10_0000 → raw_document (declaration ++ spellings (flat t)) ≡ Ok t
unfolding raw_document
raw_again t h k le =
    let bytes : List ℕ = declaration ++ spellings (flat t) in
    let few : ltb 0x10_0000 (length bytes) ≡ false = le-ltb 0x10_0000 (length bytes) le in
    let chars : are_chars bytes ≡ true = legal_chars bytes (legal_append declaration (spellings (flat t)) legal_declaration (legal_tree t k)) in
    let front : (cond (ltb 0x10_0000 (length bytes)) (Err TooLarge) (cond (are_chars bytes) (after_declaration (after_mark (lines false bytes))) (Err Malformed))) ≡ Ok (10 ∷ spellings (flat t)) =
    ap (λ (b : Bool). cond b (Err TooLarge) (cond (are_chars bytes) (after_declaration (after_mark (lines false bytes))) (Err Malformed))) few
    ∙ ap (λ (b : Bool). cond b (after_declaration (after_mark (lines false bytes))) (Err Malformed)) chars
    ∙ ap (λ (bs : List ℕ). after_declaration (after_mark bs)) (unlined bytes (document_no_return t k)) ∙ past (spellings (flat t)) in
    ap (λ (r : Result (List ℕ) Fault). r >>= λ rest. tokens_of rest >>= nested) front
    ∙ ap (λ (bs : List ℕ). tokens_of bs >>= nested) (sym (fed_spells t))
    ∙ ap (λ (r : Result (List Markup) Fault). r >>= nested) (all_again (fed t) (fed_spelled 64 t h k)) ∙ fed_nested t ∙ nested_again t h
