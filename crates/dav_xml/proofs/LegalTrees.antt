-- What is written of a tree of legal texts is legal.
use Rattle.std.proofs.Common.{◌≡◌, ℕ, ◌+◌, ◌/◌, ◌<◌, ◌≤◌, Bool, true, false, ◌&&◌, ◌==◌, List, [], ◌∷◌, ◌++◌, codes, nat_le, Option, refl, sym, ap, subst, ◌∙◌, arith}
use Rattle.std.proofs.lemmas.Bool.{and_parts, and_from, or_from}
use Rattle.std.proofs.lemmas.Bool.Decides.{nat_tests}
use Rattle.std.proofs.lemmas.Str.{encodes-append, encode_ascii}
use Rattle.std.proofs.lemmas.List.{append-nil}
use Rattle.std.proofs.lemmas.List.Folds.{list_all-append, list_any-append}
use Rattle.std.specs.List.{list_all, list_any, AllByRecursion}
use Rattle.std.specs.Str.{encode_utf8_all}
use lib.Utf8.{encode, next}
use Rattle.dav_core.specs.Element.{ElementTree, ElementTrees, element, text, no_trees, tree_then}
use Rattle.dav_xml.specs.Bytes.{is_name_start, is_name_byte}
use Rattle.dav_xml.specs.References.{is_char}
use Rattle.dav_xml.specs.Token.{opens, empty, closes}
use Rattle.dav_xml.specs.Spelling.{escaped_byte, escaped, attribute_spelling, attributes_spelling, spelling, spellings}
use Rattle.dav_xml.specs.Flat.{flat, flats}
use Rattle.dav_xml.specs.Legal.{IsLegal, IsLegalName, IsLegalAttribute, HasLegal, HaveLegal}
use Rattle.dav_xml.proofs.Escapes.{escape_cases, escaped_append, lacks_13}
use Rattle.dav_xml.proofs.Legal.{encode_cases}
use Rattle.dav_xml.proofs.Spellings.{one_spelled, element_spelled, children_spelled, text_spelled}

pub legal_append : (xs ys : List ℕ) → IsLegal xs → IsLegal ys → IsLegal (xs ++ ys)
legal_append xs ys h k = record {
  characters = h.characters ++ k.characters;
  legal = list_all-append is_char h.characters k.characters ∙ and_from (list_all is_char h.characters) (list_all is_char k.characters) h.legal k.legal;
  spelled = encodes-append h.characters k.characters ∙ ap (λ (bs : List ℕ). bs ++ encode_utf8_all k.characters) h.spelled ∙ ap (λ (bs : List ℕ). xs ++ bs) k.spelled;
}

pub legal_nil : IsLegal []
legal_nil = record { characters = []; legal = refl; spelled = refl }

pub legal_one : (c : ℕ) → c < 128 → is_char c ≡ true → IsLegal (c ∷ [])
legal_one c lt e = record { characters = c ∷ []; legal = rw e refl; spelled = append-nil (encode c) ∙ encode_ascii c lt }

-- one more byte of ASCII
pub legal_more : (c : ℕ) (bs : List ℕ) → c < 128 → is_char c ≡ true → IsLegal bs → IsLegal (c ∷ bs)
legal_more c bs lt e h = legal_append (c ∷ []) bs (legal_one c lt e) h

abbrev is_plain_byte : ℕ → Bool
is_plain_byte b = nat_le 32 b && nat_le b 126

small : (b : ℕ) → is_plain_byte b ≡ true → b < 128
small b e = grind (arith, nat_tests)

plain : (b : ℕ) → is_plain_byte b ≡ true → is_char b ≡ true
plain b e = grind (arith, nat_tests)

-- a word of ASCII
pub legal_word : (bs : List ℕ) → list_all is_plain_byte bs ≡ true → IsLegal bs
legal_word [] e = legal_nil
legal_word (b ∷ bs) e =
    let parts = and_parts (is_plain_byte b) (list_all is_plain_byte bs) e in
    legal_more b bs (small b parts.0) (plain b parts.0) (legal_word bs parts.1)

abbrev Escaped : List ℕ → ℕ → Type 0
Escaped bytes b = b < 128 → is_char b ≡ true → IsLegal bytes

legal_byte : (attribute : Bool) (b : ℕ) → Escaped (escaped_byte attribute b) b
unfolding encode
legal_byte attribute = escape_cases attribute Escaped
    (λ _ _. record { characters = codes "&amp;"; legal = refl; spelled = refl })
    (λ _ _. record { characters = codes "&lt;"; legal = refl; spelled = refl })
    (λ _ _. record { characters = codes "&gt;"; legal = refl; spelled = refl })
    (λ _ _. record { characters = codes "&quot;"; legal = refl; spelled = refl })
    (λ _ _. record { characters = codes "&#13;"; legal = refl; spelled = refl })
    (λ _ _. record { characters = codes "&#10;"; legal = refl; spelled = refl })
    (λ _ _. record { characters = codes "&#9;"; legal = refl; spelled = refl })
    (λ b p lt e. legal_one b lt e)

high_byte : (attribute : Bool) (b : ℕ) → 128 ≤ b → escaped_byte attribute b ≡ b ∷ []
high_byte attribute b le =
    let n38 : (b == 38) ≡ false = grind (arith, nat_tests) in
    let n60 : (b == 60) ≡ false = grind (arith, nat_tests) in
    let n62 : (b == 62) ≡ false = grind (arith, nat_tests) in
    let n34 : (b == 34) ≡ false = grind (arith, nat_tests) in
    let n13 : (b == 13) ≡ false = grind (arith, nat_tests) in
    let n10 : (attribute && b == 10) ≡ false = grind (arith, nat_tests) in
    let n9 : (attribute && b == 9) ≡ false = grind (arith, nat_tests) in
    rw (n38, n60, n62, n34, n13, n10, n9) refl

high_more : (attribute : Bool) (b : ℕ) (bs : List ℕ) → 128 ≤ b → escaped attribute bs ≡ bs → escaped attribute (b ∷ bs) ≡ b ∷ bs
unfolding escaped
high_more attribute b bs le e = rw (high_byte attribute b le, e) refl

none_escaped : (attribute : Bool) → escaped attribute [] ≡ []
unfolding escaped
none_escaped attribute = refl

one_escaped : (attribute : Bool) (b : ℕ) → escaped attribute (b ∷ []) ≡ escaped_byte attribute b
unfolding escaped
one_escaped attribute b = append-nil (escaped_byte attribute b)

-- of a character, whose bytes are bs
abbrev OfCharacter : Bool → ℕ → List ℕ → Type 0
OfCharacter attribute c bs = encode c ≡ bs → IsLegal (escaped attribute bs)

same_legal : (c : ℕ) (bs others : List ℕ) → is_char c ≡ true → encode c ≡ bs → others ≡ bs → IsLegal others
same_legal c bs others e is same = record { characters = c ∷ []; legal = rw e refl; spelled = append-nil (encode c) ∙ is ∙ sym same }

legal_character : (attribute : Bool) (c : ℕ) → is_char c ≡ true → IsLegal (escaped attribute (encode c))
legal_character attribute c e = encode_cases (OfCharacter attribute c) c
    (λ lt is. subst IsLegal (sym (one_escaped attribute c)) (legal_byte attribute c lt e))
    (λ le lt is. same_legal c _ _ e is (high_more attribute (192 + c / 64) (next c ∷ []) (omega arith) (high_more attribute (next c) [] (omega arith) (none_escaped attribute))))
    (λ le lt is. same_legal c _ _ e is (high_more attribute (224 + c / 4096) (next (c / 64) ∷ next c ∷ []) (omega arith)
    (high_more attribute (next (c / 64)) (next c ∷ []) (omega arith) (high_more attribute (next c) [] (omega arith) (none_escaped attribute)))))
    (λ le is. same_legal c _ _ e is (high_more attribute (240 + c / 262144) (next (c / 4096) ∷ next (c / 64) ∷ next c ∷ []) (omega arith)
    (high_more attribute (next (c / 4096)) (next (c / 64) ∷ next c ∷ []) (omega arith)
    (high_more attribute (next (c / 64)) (next c ∷ []) (omega arith) (high_more attribute (next c) [] (omega arith) (none_escaped attribute))))))
    refl

legal_characters : (attribute : Bool) (cs : List ℕ) → list_all is_char cs ≡ true → IsLegal (escaped attribute (encode_utf8_all cs))
legal_characters attribute [] e = subst IsLegal (sym (none_escaped attribute)) legal_nil
legal_characters attribute (c ∷ cs) e =
    let parts = and_parts (is_char c) (list_all is_char cs) e in
    subst IsLegal (sym (escaped_append attribute (encode c) (encode_utf8_all cs)))
    (legal_append (escaped attribute (encode c)) (escaped attribute (encode_utf8_all cs)) (legal_character attribute c parts.0) (legal_characters attribute cs parts.1))

pub legal_escaped : (attribute : Bool) (bs : List ℕ) → IsLegal bs → IsLegal (escaped attribute bs)
legal_escaped attribute bs h = subst (λ (xs : List ℕ). IsLegal (escaped attribute xs)) h.spelled (legal_characters attribute h.characters h.legal)

-- ---- trees

-- what holds of the marks of markup, of names and of what is escaped, and of what is put together of these
pub record HoldsOfParts (Q : List ℕ → Type 0) : Type 0 where
  pub nothing : Q []
  pub together : (xs ys : List ℕ) → Q xs → Q ys → Q (xs ++ ys)
  pub blank : Q (32 ∷ [])
  pub quotation : Q (34 ∷ [])
  pub slash : Q (47 ∷ [])
  pub less : Q (60 ∷ [])
  pub equal : Q (61 ∷ [])
  pub greater : Q (62 ∷ [])
  pub names : (bs : List ℕ) → IsLegalName bs → Q bs
  pub escapes : (attribute : Bool) (bs : List ℕ) → IsLegal bs → Q (escaped attribute bs)

abbrev after : (Q : List ℕ → Type 0) → HoldsOfParts Q → (c : ℕ) (bs : List ℕ) → Q (c ∷ []) → Q bs → Q (c ∷ bs)
after Q k c bs one h = k.together (c ∷ []) bs one h

of_attribute : (Q : List ℕ → Type 0) (k : HoldsOfParts Q) (a : List ℕ × List ℕ) → IsLegalAttribute a → Q (attribute_spelling a)
of_attribute Q k a h =
    after Q k 32 _ k.blank (k.together a.0 _ (k.names a.0 h.name) (after Q k 61 _ k.equal (after Q k 34 _ k.quotation
    (k.together (escaped true a.1) (34 ∷ []) (k.escapes true a.1 h.value) k.quotation))))

of_attributes : (Q : List ℕ → Type 0) (k : HoldsOfParts Q) (attributes : List (List ℕ × List ℕ)) → AllByRecursion IsLegalAttribute attributes → Q (attributes_spelling attributes)
unfolding attributes_spelling
of_attributes Q k [] h = k.nothing
of_attributes Q k (a ∷ others) h = k.together (attribute_spelling a) (attributes_spelling others) (of_attribute Q k a h.0) (of_attributes Q k others h.1)

of_opens : (Q : List ℕ → Type 0) (k : HoldsOfParts Q) (name : List ℕ) (attributes : List (List ℕ × List ℕ)) → IsLegalName name → AllByRecursion IsLegalAttribute attributes → Q (spelling (opens name attributes))
of_opens Q k name attributes h hs = after Q k 60 _ k.less (k.together name _ (k.names name h) (k.together (attributes_spelling attributes) (62 ∷ []) (of_attributes Q k attributes hs) k.greater))

of_empty : (Q : List ℕ → Type 0) (k : HoldsOfParts Q) (name : List ℕ) (attributes : List (List ℕ × List ℕ)) → IsLegalName name → AllByRecursion IsLegalAttribute attributes → Q (spelling (empty name attributes))
of_empty Q k name attributes h hs =
    after Q k 60 _ k.less (k.together name _ (k.names name h) (k.together (attributes_spelling attributes) (47 ∷ 62 ∷ []) (of_attributes Q k attributes hs) (after Q k 47 (62 ∷ []) k.slash k.greater)))

of_closes : (Q : List ℕ → Type 0) (k : HoldsOfParts Q) (name : List ℕ) → IsLegalName name → Q (spelling (closes name))
of_closes Q k name h = after Q k 60 _ k.less (after Q k 47 _ k.slash (k.together name (62 ∷ []) (k.names name h) k.greater))

none_spelled : spellings [] ≡ []
unfolding spellings
none_spelled = refl

around : (Q : List ℕ → Type 0) (k : HoldsOfParts Q) (name : List ℕ) (prefix namespace : Option (List ℕ)) (attributes : List (List ℕ × List ℕ)) (children : ElementTrees) → IsLegalName name → AllByRecursion IsLegalAttribute attributes
    → Q (spellings (flats children)) → Q (spellings (flat (element name prefix namespace attributes children)))
around Q k name prefix namespace attributes no_trees h hs inner = subst Q (sym (one_spelled (empty name attributes))) (of_empty Q k name attributes h hs)
around Q k name prefix namespace attributes (tree_then t ts) h hs inner =
    subst Q (sym (element_spelled name prefix namespace attributes t ts))
    (k.together (spelling (opens name attributes)) _ (of_opens Q k name attributes h hs) (k.together (spellings (flats (tree_then t ts))) (spelling (closes name)) inner (of_closes Q k name h)))

of_children : (Q : List ℕ → Type 0) (k : HoldsOfParts Q) (ts : ElementTrees) → HaveLegal ts → Q (spellings (flats ts))
of_children Q k no_trees h = subst Q (sym none_spelled) k.nothing
of_children Q k (tree_then (element name prefix namespace attributes children) ts) h =
    let t = element name prefix namespace attributes children in
    subst Q (sym (children_spelled t ts))
    (k.together (spellings (flat t)) (spellings (flats ts)) (around Q k name prefix namespace attributes children h.0.0 h.0.1.0 (of_children Q k children h.0.1.1)) (of_children Q k ts h.1))
of_children Q k (tree_then (text bytes) ts) h =
    subst Q (sym (children_spelled (text bytes) ts)) (k.together (spellings (flat (text bytes))) (spellings (flats ts)) (subst Q (sym (text_spelled bytes)) (k.escapes false bytes h.0)) (of_children Q k ts h.1))

of_tree : (Q : List ℕ → Type 0) (k : HoldsOfParts Q) (t : ElementTree) → HasLegal t → Q (spellings (flat t))
of_tree Q k (element name prefix namespace attributes children) h = around Q k name prefix namespace attributes children h.0 h.1.0 (of_children Q k children h.1.1)
of_tree Q k (text bytes) h = subst Q (sym (text_spelled bytes)) (k.escapes false bytes h)

-- ---- legal characters, and no carriage return

of_legal : HoldsOfParts IsLegal
of_legal = record {
  nothing = legal_nil;
  together = legal_append;
  blank = legal_one 32 (omega arith) refl;
  quotation = legal_one 34 (omega arith) refl;
  slash = legal_one 47 (omega arith) refl;
  less = legal_one 60 (omega arith) refl;
  equal = legal_one 61 (omega arith) refl;
  greater = legal_one 62 (omega arith) refl;
  names = λ bs h. h.legal;
  escapes = legal_escaped;
}

abbrev pub HasNoReturn : List ℕ → Type 0
HasNoReturn bytes = list_any (λ b. b == 13) bytes ≡ false

name_byte : (b : ℕ) → is_name_byte b ≡ true → (b == 13) ≡ false
name_byte b e = grind (arith, nat_tests)

no_return : (bs : List ℕ) → list_all is_name_byte bs ≡ true → HasNoReturn bs
no_return [] e = refl
no_return (b ∷ bs) e = let parts = and_parts (is_name_byte b) (list_all is_name_byte bs) e in rw (name_byte b parts.0, no_return bs parts.1) refl

name_no_return : (bs : List ℕ) → IsLegalName bs → HasNoReturn bs
name_no_return [] h = refl
name_no_return (b ∷ bs) h = no_return (b ∷ bs) (and_parts (is_name_start b) (list_all is_name_byte (b ∷ bs)) h.name).1

of_no_return : HoldsOfParts HasNoReturn
of_no_return = record {
  nothing = refl;
  together = λ xs ys h k. list_any-append (λ b. b == 13) xs ys ∙ or_from (list_any (λ b. b == 13) xs) (list_any (λ b. b == 13) ys) h k;
  blank = refl;
  quotation = refl;
  slash = refl;
  less = refl;
  equal = refl;
  greater = refl;
  names = name_no_return;
  escapes = λ attribute bs h. lacks_13 attribute bs;
}

pub legal_tree : (t : ElementTree) → HasLegal t → IsLegal (spellings (flat t))
legal_tree = of_tree IsLegal of_legal

pub tree_no_return : (t : ElementTree) → HasLegal t → HasNoReturn (spellings (flat t))
tree_no_return = of_tree HasNoReturn of_no_return
