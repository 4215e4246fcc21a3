-- A journal that another opening keeps, and a server that takes the place of that one.
use Rattle.std.specs.Prelude.{◌≡◌, ℕ, List, [], ◌++◌}
use Rattle.std.specs.List.{concat}
use Rattle.http_server.specs.declared.response.Response.{Response}
use Rattle.dav_kept.specs.Kept.{PlaysRecords, answer_step, held_by, is_new, journal_of, preface_of}
use Rattle.dav_kept.specs.Records.{RequestView}
use Rattle.dav_kept.specs.declared.followed.Followed.{Followed}
use Rattle.dav_kept.specs.declared.kept.Kept.{Kept}

-- the journal whose blocks are read
abbrev pub followed_by : {J : Type 0} → Followed J → J
followed_by f = f.journal

-- A server goes on over another opening of what it read, as that was found: of it these blocks were
-- read, which end where those end that were played; and the records of the ones that follow were
-- played, each once and in order.
pub record TakesOver {H J K : Type 0} (answers : H → RequestView → Response → H → Type 0)
    (ended : J → ℕ) (is_clean : K → Type 0) (has_so_far has_read : K → List (List ℕ) → Type 0)
    (ends : K → ℕ) (old : Kept H J) (found : K) (new : Kept H K) : Type 0 where
  pub mid : K
  pub before : List (List ℕ)
  pub blocks : List (List ℕ)
  pub place : ends mid ≡ ended (journal_of old)
  pub reads : is_clean mid → has_so_far found [] → has_so_far mid before
  pub plays : PlaysRecords (answer_step answers) (concat blocks) (held_by old) (held_by new)
  pub rest : is_clean (journal_of new) → is_clean mid × (has_so_far found []
      → has_read (journal_of new) (before ++ blocks))
  pub batch : (held_by new).batch ≡ (held_by old).batch
  pub novelty : is_new new ≡ is_new old
  pub preface : preface_of new ≡ preface_of old
  pub clean : is_clean (journal_of new) → is_clean found
