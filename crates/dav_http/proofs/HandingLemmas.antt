-- Replies of which the multistatus was handed on in parts.
use Rattle.std.proofs.Common.{◌≡◌, ◌≤◌, ℕ, false, List, Option, Some, None, sym, ap, subst, ◌∙◌}
use Rattle.dav_core.specs.Element.{ElementTree}
use Rattle.dav_engine.specs.Reply.{Reply, Header}
use Rattle.dav_engine.specs.Taking.{IsHandedOn}
use Rattle.dav_server.specs.Leaving.{IsErrorReply, may_come_late}
use Rattle.dav_http.specs.Leaves.{Leaves, early, no_head, reading, unserved}

error_alike : (a b : Reply) → a.status ≡ b.status → a.headers ≡ b.headers → IsErrorReply a → IsErrorReply b
error_alike a b status headers is = (subst (λ (n : ℕ). 400 ≤ n) status is.0, λ none. is.1 (headers ∙ none))

-- what a request is known to leave goes by the status and the headers of its reply
leaves_alike : (head : List ℕ) (a b : Reply) → a.status ≡ b.status → a.headers ≡ b.headers → Leaves head a → Leaves head b
leaves_alike head a b status headers (no_head none) = no_head none
leaves_alike head a b status headers (reading r m is gives safe) = reading r m is gives safe
leaves_alike head a b status headers (unserved r e is gives) = unserved r e is gives
leaves_alike head a b status headers (early r m is gives error) =
    early r m is gives (error_alike a b status headers error.0, subst (λ (n : ℕ). may_come_late m n ≡ false) status error.1)

-- a reply that is told in parts has the status and the headers of the whole one
pub told_leaves : {T : Type 0} (opened taken : T → ElementTree → T) (to : T) (whole told : Reply) (after : Option T) → IsHandedOn opened taken to whole told after
    → (head : List ℕ) → Leaves head told → Leaves head whole
told_leaves opened taken to whole told None handed head left = subst (Leaves head) handed left
told_leaves opened taken to whole told (Some t) handed head left =
    leaves_alike head told whole (sym (ap (λ (r : Reply). r.status) handed.4)) (sym (ap (λ (r : Reply). r.headers) handed.4)) left

pub whole_leaves : {T : Type 0} (opened taken : T → ElementTree → T) (to : T) (whole told : Reply) (after : Option T) → IsHandedOn opened taken to whole told after
    → (head : List ℕ) → Leaves head whole → Leaves head told
whole_leaves opened taken to whole told None handed head left = subst (Leaves head) (sym handed) left
whole_leaves opened taken to whole told (Some t) handed head left =
    leaves_alike head whole told (ap (λ (r : Reply). r.status) handed.4) (ap (λ (r : Reply). r.headers) handed.4) left
