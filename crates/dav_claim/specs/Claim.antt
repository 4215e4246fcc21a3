-- A disk with a claim, and what a claim is for.
use Rattle.std.specs.Prelude.{◌≡◌, ◌≢◌, ◌<◌, ◌≤◌, ◌+◌, ◌&&◌, ℕ, Bool, false, not}
use Rattle.dav_claim.specs.declared.claimed.Claimed.{Claimed}
use Rattle.dav_claim.specs.declared.claimed.Look.{Look}

-- the disk that is written under the claim
abbrev pub disk_of : {D C : Type 0} → Claimed D C → D
disk_of w = w.disk

-- the claim of a look
abbrev pub found_by : {C : Type 0} → Look C → C
found_by l = l.claim

-- the claim
abbrev pub claim_of : {D C : Type 0} → Claimed D C → C
claim_of w = w.look.claim

-- the claim was found since the last read
abbrev pub found_since : {C : Type 0} → Look C → Bool
found_since l = l.is_found

-- the same, of a disk
abbrev pub is_found : {D C : Type 0} → Claimed D C → Bool
is_found w = w.look.is_found

-- how many calls failed for want of it
abbrev pub refused_by : {C : Type 0} → Look C → ℕ
refused_by l = l.refused

-- no sync has failed, and after each one the claim was there
abbrev pub can_be_used : {D C : Type 0} → (D → Bool) → Claimed D C → Bool
can_be_used is_usable w = is_usable w.disk && not w.is_lost

-- how many calls have failed, for want of the claim too
abbrev pub faults_of : {D C : Type 0} → (D → ℕ) → Claimed D C → ℕ
faults_of faults w = faults w.disk + w.look.refused

-- a disk has refused no call
abbrev pub IsFresh : {D C : Type 0} → Claimed D C → Type 0
IsFresh w = (w.look.refused ≡ 0) × (w.is_lost ≡ false) × (w.look.is_found ≡ false)

-- Whose claim is there at each moment. The claim of an opening that was there until another one was
-- written isn't there again.
abbrev pub IsGoneFrom : (ℕ → ℕ) → ℕ → ℕ → Type 0
IsGoneFrom claim_at mine moment = (later : ℕ) → moment ≤ later → claim_at later ≢ mine

-- What an opening tells as kept, a later one reads: the one synced its block and then found its claim;
-- the other wrote its own in the place of that, and then began to read. Then the block was synced before.
abbrev pub AnsweredIsRead : Type 0
AnsweredIsRead =
    (claim_at : ℕ → ℕ) (mine synced looked claimed read : ℕ)
    → synced ≤ looked → claim_at looked ≡ mine
    → IsGoneFrom claim_at mine claimed → claimed ≤ read
    → synced < claimed × (synced < read)
