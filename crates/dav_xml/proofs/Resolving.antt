-- Resolving references one after the other.
use Rattle.std.proofs.Common.{◌≡◌, ℕ, Bool, true, false, cond, ◌==◌, List, [], ◌∷◌, ◌++◌, length, Option, Some, None, Result, Ok, Err, refl, sym, ap, ◌∙◌, append_assoc, encode_utf8}
use Rattle.std.proofs.lemmas.List.{append-nil}
use Rattle.dav_xml.specs.declared.error.Fault.{Fault}
use Rattle.dav_xml.specs.declared.error.Fault.TheVariants.{Malformed}
use Rattle.dav_xml.specs.declared.error.XmlError.{XmlError}
use Rattle.dav_xml.specs.declared.error.XmlError.TheVariants as errors
use Rattle.std.proofs.lemmas.Bool.{ne_eqb}
use Rattle.dav_xml.specs.Read.{◌>>=◌, Fails, needed}
use Rattle.dav_xml.specs.Bytes.{behind, split_byte}
use Rattle.dav_xml.specs.References.{resolved_in, before, reference_of, plain_byte}

-- what is inside a reference goes on to the next ';'
abbrev pub referred : Bool → List ℕ → Option (List ℕ × List ℕ) → Result (List ℕ) Fault
referred attribute name found = needed found >>= λ p. reference_of (name ++ p.0) >>= λ c. before (encode_utf8 c) (resolved_in attribute None p.1)

referred-behind : (attribute : Bool) (name : List ℕ) (b : ℕ) (found : Option (List ℕ × List ℕ)) → referred attribute (name ++ b ∷ []) found ≡ referred attribute name (behind (b ∷ []) found)
referred-behind attribute name b None = refl
referred-behind attribute name b (Some p) = ap (λ (t : List ℕ). reference_of t >>= λ c. before (encode_utf8 c) (resolved_in attribute None p.1)) (append_assoc name (b ∷ []) p.0)

inside_at : (attribute : Bool) (name : List ℕ) (b : ℕ) (bs : List ℕ) (test : Bool) → resolved_in attribute (Some (name ++ b ∷ [])) bs ≡ referred attribute (name ++ b ∷ []) (split_byte 59 bs)
    → cond test (reference_of name >>= λ c. before (encode_utf8 c) (resolved_in attribute None bs)) (resolved_in attribute (Some (name ++ b ∷ [])) bs) ≡ referred attribute name (cond test (Some ([], bs)) (behind (b ∷ []) (split_byte 59 bs)))
inside_at attribute name b bs true more = ap (λ (t : List ℕ). reference_of t >>= λ c. before (encode_utf8 c) (resolved_in attribute None bs)) (sym (append-nil name))
inside_at attribute name b bs false more = more ∙ referred-behind attribute name b (split_byte 59 bs)

pub inside : (attribute : Bool) (name bs : List ℕ) → resolved_in attribute (Some name) bs ≡ referred attribute name (split_byte 59 bs)
unfolding resolved_in
inside attribute name [] = refl
inside attribute name (b ∷ bs) = inside_at attribute name b bs (b == 59) (inside attribute (name ++ b ∷ []) bs)

-- what was resolved before, and what is still resolved
pub before-twice : (a b : List ℕ) (read : Result (List ℕ) Fault) → before a (before b read) ≡ before (a ++ b) read
before-twice a b (Ok x) = ap (λ (t : List ℕ). Ok t) (sym (append_assoc a b x))
before-twice a b (Err e) = refl

-- one turn over text
pub turn_plain : (attribute : Bool) (out rest after bytes : List ℕ) (b p : ℕ) → rest ≡ b ∷ after → (b ≡ 38 → ⊥) → p ≡ plain_byte attribute b
    → before out (resolved_in attribute None rest) ≡ resolved_in attribute None bytes → before (out ++ p ∷ []) (resolved_in attribute None after) ≡ resolved_in attribute None bytes
unfolding resolved_in
turn_plain attribute out rest after bytes b p e other pe so_far =
    let no : (b == 38) ≡ false = ne_eqb b 38 other in
    let one : resolved_in attribute None rest ≡ before (p ∷ []) (resolved_in attribute None after) = ap (resolved_in attribute None) e
    ∙ ap (λ (t : Bool). cond t (resolved_in attribute (Some []) after) (before (plain_byte attribute b ∷ []) (resolved_in attribute None after))) no
    ∙ ap (λ (q : ℕ). before (q ∷ []) (resolved_in attribute None after)) (sym pe) in
    sym (before-twice out (p ∷ []) (resolved_in attribute None after)) ∙ ap (before out) (sym one) ∙ so_far

-- a reference comes next
pub at_reference : (attribute : Bool) (rest after : List ℕ) (b : ℕ) → rest ≡ b ∷ after → b ≡ 38 → resolved_in attribute None rest ≡ referred attribute [] (split_byte 59 after)
unfolding resolved_in
at_reference attribute rest after b e is = ap (resolved_in attribute None) (e ∙ ap (λ (q : ℕ). q ∷ after) is) ∙ inside attribute [] after

pub turn_reference : (attribute : Bool) (out rest after bytes name next : List ℕ) (b c : ℕ) → rest ≡ b ∷ after → b ≡ 38 → Some (name, next) ≡ split_byte 59 after → reference_of name ≡ Ok c
    → before out (resolved_in attribute None rest) ≡ resolved_in attribute None bytes → before (out ++ encode_utf8 c) (resolved_in attribute None next) ≡ resolved_in attribute None bytes
turn_reference attribute out rest after bytes name next b c e is split refers so_far =
    let one : resolved_in attribute None rest ≡ before (encode_utf8 c) (resolved_in attribute None next) = at_reference attribute rest after b e is ∙ ap (referred attribute []) (sym split)
    ∙ ap (λ (r : Result ℕ Fault). r >>= λ c. before (encode_utf8 c) (resolved_in attribute None next)) refers in
    sym (before-twice out (encode_utf8 c) (resolved_in attribute None next)) ∙ ap (before out) (sym one) ∙ so_far

pub no_end : (attribute : Bool) (out rest after bytes : List ℕ) (b : ℕ) → rest ≡ b ∷ after → b ≡ 38 → None ≡ split_byte 59 after
    → before out (resolved_in attribute None rest) ≡ resolved_in attribute None bytes → resolved_in attribute None bytes ≡ Err Malformed
no_end attribute out rest after bytes b e is split so_far = sym so_far ∙ ap (before out) (at_reference attribute rest after b e is ∙ ap (referred attribute []) (sym split))

pub no_reference : (error : XmlError) (attribute : Bool) (out rest after bytes name next : List ℕ) (b : ℕ) → rest ≡ b ∷ after → b ≡ 38 → Some (name, next) ≡ split_byte 59 after → Fails error (reference_of name)
    → before out (resolved_in attribute None rest) ≡ resolved_in attribute None bytes → Fails error (resolved_in attribute None bytes)
no_reference errors.Memory attribute out rest after bytes name next b e is split refers so_far = tt
no_reference (errors.Fault f) attribute out rest after bytes name next b e is split refers so_far =
    sym so_far ∙ ap (before out) (at_reference attribute rest after b e is ∙ ap (referred attribute []) (sym split)
    ∙ ap (λ (r : Result ℕ Fault). r >>= λ c. before (encode_utf8 c) (resolved_in attribute None next)) refers)

pub all_done : (attribute : Bool) (out rest bytes : List ℕ) → length rest ≡ 0 → before out (resolved_in attribute None rest) ≡ resolved_in attribute None bytes → resolved_in attribute None bytes ≡ Ok out
unfolding resolved_in
all_done attribute out [] bytes e so_far = sym so_far ∙ ap (λ (t : List ℕ). Ok t) (append-nil out)
all_done attribute out (b ∷ rest) bytes e so_far = absurd cc
