-- A secret has its parts once.
use Rattle.std.proofs.Common.{◌≡◌, ℕ, List, ◌++◌, codes, refl, sym, ap, ◌∙◌, subst, max, min}
use Rattle.std.proofs.lemmas.List.{append_cancel_left}
use Rattle.std.specs.Str.Parse.{digits_value, without_leading_plus}
use Rattle.dav_access.specs.Secrets.{AsksRounds, HasRounds, asked, usual, IsSecretOf}
use Rattle.dav_access.specs.Texts.{IsSplit}

-- a text is split at one place
pub front_once : {byte : ℕ} {text u v before after : List ℕ} → IsSplit byte text u v → IsSplit byte text before after → u ≡ before
front_once a b = a.front ∙ sym b.front

pub back_once : {byte : ℕ} {text u v before after : List ℕ} → IsSplit byte text u v → IsSplit byte text before after → v ≡ after
back_once a b = a.back ∙ sym b.back

-- the same, of two texts that are equal
pub same_split : {byte : ℕ} {s t before after : List ℕ} → s ≡ t → IsSplit byte s before after → IsSplit byte t before after
same_split {byte} {s} {t} {before} {after} e h = subst (λ (u : List ℕ). IsSplit byte u before after) e h

same_after : {text : List ℕ} {m n : ℕ} {r s : List ℕ} → (a : AsksRounds text m r) → (b : AsksRounds text n s) → b.after ≡ a.after
same_after a b = append_cancel_left (codes "rounds=") b.after a.after (sym b.begins ∙ a.begins)

asked_once : {text : List ℕ} {m n : ℕ} {r s : List ℕ} → AsksRounds text m r → AsksRounds text n s → (m ≡ n) × (r ≡ s)
asked_once a b =
    let split = same_split (same_after a b) b.ends in
    (a.value ∙ ap (λ t. digits_value 10 (without_leading_plus t)) (front_once a.ends split) ∙ sym b.value, back_once a.ends split)

-- a text has its rounds once
pub rounds_once : {text : List ℕ} {m n : ℕ} {r s : List ℕ} → HasRounds text m r → HasRounds text n s → (m ≡ n) × (r ≡ s)
rounds_once (asked a) (asked b) = let e = asked_once a b in (ap (λ k. min (max k 1000) 1000000) e.0, e.1)
rounds_once (asked a) (usual none) = absurd (none _ _ a)
rounds_once (usual none) (asked b) = absurd (none _ _ b)
rounds_once (usual none) (usual neither) = (refl, refl)

-- what two readings of a secret agree on
pub record AreSame (m n : ℕ) (salt_a salt_b digest_a digest_b : List ℕ) : Type 0 where
  pub rounds : m ≡ n
  pub salt : salt_a ≡ salt_b
  pub digest : digest_a ≡ digest_b

pub secret_once : {secret : List ℕ} {m n : ℕ} {salt_a salt_b digest_a digest_b : List ℕ}
    → IsSecretOf secret m salt_a digest_a → IsSecretOf secret n salt_b digest_b → AreSame m n salt_a salt_b digest_a digest_b
secret_once {secret} {m} {n} {salt_a} {salt_b} {digest_a} {digest_b} a b =
    let after : b.after ≡ a.after = append_cancel_left (codes "$5$") b.after a.after (sym b.begins ∙ a.begins) in
    let runs : HasRounds a.after n b.rest = subst (λ (t : List ℕ). HasRounds t n b.rest) after b.runs in
    let same = rounds_once a.runs runs in
    let split = same_split (sym same.1) b.parts in
    record { rounds = same.0; salt = front_once a.parts split; digest = back_once a.parts split }

-- the parts of a secret are those of what follows its rounds
pub parts_split : {secret after : List ℕ} {m n : ℕ} {rest salt digest : List ℕ}
    → secret ≡ codes "$5$" ++ after → HasRounds after m rest → IsSecretOf secret n salt digest → IsSplit 36 rest salt digest
parts_split {secret} {after} {m} {n} {rest} {salt} {digest} begins runs is =
    let same : is.after ≡ after = append_cancel_left (codes "$5$") is.after after (sym is.begins ∙ begins) in
    let once = rounds_once (subst (λ (t : List ℕ). HasRounds t n is.rest) same is.runs) runs in
    same_split once.1 is.parts
