-- Reading as many as there are, one after the other, as a loop does.
use Rattle.std.proofs.Common.{◌≡◌, ℕ, suc, ◌+◌, ◌-◌, ◌<◌, ◌≤◌, List, [], ◌∷◌, ◌++◌, Result, Ok, Err, sym, ap, subst, ◌∙◌, append_assoc, arith}
use Rattle.std.proofs.lemmas.List.{append-nil}
use Rattle.dav_xml.specs.declared.error.Fault.{Fault}
use Rattle.dav_xml.specs.declared.error.XmlError.{XmlError}
use Rattle.dav_xml.specs.declared.error.XmlError.TheVariants as errors
use Rattle.dav_xml.specs.Read.{Fails}
use Rattle.dav_xml.specs.Markup.{many, one_and}

abbrev pub joined : {X : Type 0} → List X → List X × List ℕ → List X × List ℕ
joined front found = (front ++ found.0, found.1)

pub goes_on : {X : Type 0} (item : List ℕ → Result (X × List ℕ) Fault) (front : List X) (len i : ℕ) (bytes : List ℕ) (x : X) (after : List ℕ) (total : List X × List ℕ) → i < len → item bytes ≡ Ok (x, after)
    → joined front (many item (len - i) bytes) ≡ total → joined (front ++ x ∷ []) (many item (len - (i + 1)) after) ≡ total
unfolding many
goes_on {X} item front len i bytes x after total lt h so_far =
    let k : len - i ≡ suc (len - (i + 1)) = omega arith in
    let found : List X × List ℕ = many item (len - (i + 1)) after in
    let one : joined front (many item (len - i) bytes) ≡ joined front (x ∷ found.0, found.1) = ap (λ (n : ℕ). joined front (many item n bytes)) k ∙ ap (λ (r : Result (X × List ℕ) Fault). joined front (one_and r bytes (many item (len - (i + 1))))) h in
    ap (λ (xs : List X). (xs, found.1)) (append_assoc front (x ∷ []) found.0) ∙ sym one ∙ so_far

pub stops : {X : Type 0} (item : List ℕ → Result (X × List ℕ) Fault) (front : List X) (len i : ℕ) (bytes : List ℕ) (e : Fault) (total : List X × List ℕ) → i < len → item bytes ≡ Err e
    → joined front (many item (len - i) bytes) ≡ total → total ≡ (front, bytes)
unfolding many
stops {X} item front len i bytes e total lt h so_far =
    let k : len - i ≡ suc (len - (i + 1)) = omega arith in
    sym so_far ∙ ap (λ (n : ℕ). joined front (many item n bytes)) k ∙ ap (λ (r : Result (X × List ℕ) Fault). joined front (one_and r bytes (many item (len - (i + 1))))) h ∙ ap (λ (xs : List X). (xs, bytes)) (append-nil front)

pub is_done : {X : Type 0} (item : List ℕ → Result (X × List ℕ) Fault) (front : List X) (len i : ℕ) (bytes : List ℕ) (total : List X × List ℕ) → len ≤ i → joined front (many item (len - i) bytes) ≡ total → total ≡ (front, bytes)
unfolding many
is_done {X} item front len i bytes total le so_far =
    let k : len - i ≡ 0 = omega arith in
    sym so_far ∙ ap (λ (n : ℕ). joined front (many item n bytes)) k ∙ ap (λ (xs : List X). (xs, bytes)) (append-nil front)

-- the fault that a pattern found
pub failed : {Y : Type 0} (error : XmlError) (f : Fault) (read : Result Y Fault) → error ≡ errors.Fault f → Fails error read → read ≡ Err f
failed error f read is h = subst (λ (e : XmlError). Fails e read) is h
