-- Runs of records that go on, and servers that start over what is left of them.
use Rattle.std.proofs.Common.{◌≡◌, ◌+◌, ◌⊎◌, ℕ, Bool, true, false, IsTrue, List, [], ◌∷◌, ◌++◌, Option, Some, None, refl, sym, ap, subst, ◌∙◌, append_assoc, append-nil, arith, inl, inr}
use Rattle.std.specs.List.{concat}
use Rattle.std.proofs.lemmas.Grind.{flat_map-append}
use Rattle.std.proofs.lemmas.List.Elements.{All-append, All-cons, All-nil}
use Rattle.http_server.specs.declared.response.Response.{Response}
use Rattle.dav_kept.specs.Kept.{Holding, IsAnswerOf, IsRunOf, Leads, LoadsWhatWasSaved, Preface, RecordsFollow, RecordsRun, Snapshot, StaysInJournal, answer_step, committed, first_block, held_by, is_new, journal_of, preface_of, snapshot_of, with_batch, with_first, with_opening, with_snapshot}
use Rattle.dav_kept.specs.Life.{IsDetermined, IsRunSince}
use Rattle.dav_kept.specs.Records.{IsRecord, RecordView, RequestView, count_tokens, latest_moment, record_bytes, records_bytes, token_count}
use Rattle.dav_kept.specs.declared.handler.Effect.{Effect}
use Rattle.dav_kept.specs.declared.handler.Effect.TheVariants.{Changed, Left}
use Rattle.dav_kept.specs.declared.kept.Kept.{Kept}
use Rattle.dav_kept.proofs.KeptLemmas.{first_records, leads_append, same_records}
use Rattle.dav_kept.proofs.LifeLemmas.{after_answers, after_commit, after_snapshot, after_start, batch_joins, in_blocks, one_end, opening_joins}
use Rattle.dav_live.specs.Numbered.{AreNumbered, HasNumber}
use Rattle.dav_live.specs.Runs.{Commits, GoesOn, IsLeft, IsOneRun, IsOpened, RunGoesOn, Saves, StartsWith, StaysKept, as_before, begun_anew, with_the_batch}

-- ---- numbers

numbered_append : (n : ℕ) (xs ys : List RecordView) → AreNumbered n xs → AreNumbered (n + count_tokens xs) ys → AreNumbered n (xs ++ ys)
numbered_append n [] ys x y = subst (λ (m : ℕ). AreNumbered m ys) (omega arith) y
numbered_append n (r ∷ rs) ys x y =
    (x.0, numbered_append (n + token_count r.request.token) rs ys x.1 (subst (λ (m : ℕ). AreNumbered m ys) (omega arith) y))

pub numbered_then : (n m : ℕ) (xs ys : List RecordView) → m ≡ n + count_tokens xs → AreNumbered n xs → AreNumbered m ys → AreNumbered n (xs ++ ys)
numbered_then n m xs ys e x y = numbered_append n xs ys x (subst (λ (k : ℕ). AreNumbered k ys) e y)

-- the first of numbered records are numbered
numbered_front : (n : ℕ) (xs ys : List RecordView) → AreNumbered n (xs ++ ys) → AreNumbered n xs
numbered_front n [] ys x = tt
numbered_front n (r ∷ rs) ys x = (x.0, numbered_front (n + token_count r.request.token) rs ys x.1)

-- ---- what is kept

module _ {H J : Type 0} (answers : H → RequestView → Response → H → Type 0) (is_clean : J → Type 0) (kept : J → List (List ℕ) → Type 0) where
  pub goes_on_held : (old new : Kept H J) → held_by new ≡ held_by old → StaysInJournal old new → (is_clean (journal_of new) → is_clean (journal_of old))
      → ((blocks : List (List ℕ)) → kept (journal_of old) blocks → kept (journal_of new) blocks) → GoesOn answers is_clean kept old new
  goes_on_held old new held stays clean keeps = record {
    follows = record {
      more = [];
      longer = ap (λ (h : Holding H). h.batch) held ∙ sym (append-nil (held_by old).batch);
      plays = record {
        tokens = 0;
        latest = 0;
        leads = record {
          records = [];
          are = All-nil IsRecord;
          spelled = refl;
          runs = ap (λ (h : Holding H). h.state) held;
          counted = refl;
          last = refl;
        };
        counted = ap (λ (h : Holding H). h.tokens) held ∙ omega arith;
        last = ap (λ (h : Holding H). h.latest) held ∙ omega arith;
      };
    };
    numbered = tt;
    stays = stays;
    clean = clean;
    keeps = keeps;
  }

  pub goes_on_left : (old new : Kept H J) → held_by new ≡ held_by old → StaysInJournal old new → journal_of new ≡ journal_of old
      → GoesOn answers is_clean kept old new
  goes_on_left old new held stays journal =
      goes_on_held old new held stays (λ is. subst is_clean journal is) (λ blocks is. subst (λ (j : J). kept j blocks) (sym journal) is)

  pub goes_on_same : (old new : Kept H J) → new ≡ old → GoesOn answers is_clean kept old new
  goes_on_same old new e =
      goes_on_left old new (ap (λ (k : Kept H J). held_by k) e)
      (ap (λ (k : Kept H J). preface_of k) e, ap (λ (k : Kept H J). is_new k) e) (ap (λ (k : Kept H J). journal_of k) e)

  -- an answer that is recorded where it changed the state
  pub answered_goes_on : (old new : Kept H J) (q : RequestView) (own : Response) (does : Effect) → IsAnswerOf answers (held_by old) q own does (held_by new)
      → IsRecord (record { request = q; status = own.status }) → HasNumber (held_by old).tokens q.token → StaysInJournal old new
      → (is_clean (journal_of new) → is_clean (journal_of old))
      → ((blocks : List (List ℕ)) → kept (journal_of old) blocks → kept (journal_of new) blocks) → GoesOn answers is_clean kept old new
  answered_goes_on old new q own Left is fits number stays clean keeps = goes_on_held old new is.held stays clean keeps
  answered_goes_on old new q own Changed is fits number stays clean keeps =
      let r : RecordView = record { request = q; status = own.status } in
      record {
        follows = record {
          more = record_bytes r;
          longer = ap (λ (h : Holding H). h.batch) is.held;
          plays = record {
            tokens = token_count q.token;
            latest = q.moment;
            leads = record {
              records = r ∷ [];
              are = All-cons IsRecord r [] fits (All-nil IsRecord);
              spelled = sym (append-nil (record_bytes r));
              runs = ((held_by new).state, (own, refl, is.is_answer), refl);
              counted = omega arith;
              last = omega arith;
            };
            counted = ap (λ (h : Holding H). h.tokens) is.held;
            last = ap (λ (h : Holding H). h.latest) is.held;
          };
        };
        numbered = (number, tt);
        stays = stays;
        clean = clean;
        keeps = keeps;
      }

  pub goes_on_then : (a b c : Kept H J) → GoesOn answers is_clean kept a b → GoesOn answers is_clean kept b c → GoesOn answers is_clean kept a c
  goes_on_then a b c x y = record {
    follows = record {
      more = x.follows.more ++ y.follows.more;
      longer = y.follows.longer ∙ ap (λ (t : List ℕ). t ++ y.follows.more) x.follows.longer ∙ append_assoc (held_by a).batch x.follows.more y.follows.more;
      plays = record {
        tokens = x.follows.plays.tokens + y.follows.plays.tokens;
        latest = _;
        leads = leads_append (answer_step answers) x.follows.more y.follows.more (held_by a).state (held_by b).state (held_by c).state
            x.follows.plays.tokens y.follows.plays.tokens x.follows.plays.latest y.follows.plays.latest x.follows.plays.leads y.follows.plays.leads;
        counted = omega (arith, x.follows.plays.counted, y.follows.plays.counted);
        last = omega (arith, x.follows.plays.last, y.follows.plays.last);
      };
    };
    numbered = numbered_then (held_by a).tokens (held_by b).tokens x.follows.plays.leads.records y.follows.plays.leads.records
        (x.follows.plays.counted ∙ ap (λ (n : ℕ). (held_by a).tokens + n) x.follows.plays.leads.counted) x.numbered y.numbered;
    stays = (y.stays.0 ∙ x.stays.0, y.stays.1 ∙ x.stays.1);
    clean = λ is. x.clean (y.clean is);
    keeps = λ blocks is. y.keeps blocks (x.keeps blocks is);
  }

-- ---- the run goes on

module _ {H J : Type 0} (answers : H → RequestView → Response → H → Type 0) (saved : H → List ℕ) (is_saveable : H → Type 0) (is_clean : J → Type 0) (kept : J → List (List ℕ) → Type 0) where
  -- a run up to one holding is one up to an equal one, of the same records
  moved : (first : H) (start : Option Snapshot) (blocks : List (List ℕ)) (a b : Holding H) → b ≡ a → (x : IsRunSince (answer_step answers) saved is_saveable first start blocks a)
      → (y : IsRunSince (answer_step answers) saved is_saveable first start blocks b) × (y.all.records ≡ x.all.records)
  moved first start blocks a b e x =
      subst (λ (h : Holding H). (y : IsRunSince (answer_step answers) saved is_saveable first start blocks h) × (y.all.records ≡ x.all.records)) (sym e) (x, refl)

  -- a server of this run, by its parts
  is_run : (first : H) (records : List RecordView) (new : Kept H J) (start : Option Snapshot) (blocks : List (List ℕ))
      → (y : IsRunSince (answer_step answers) saved is_saveable first start blocks (held_by new)) × (y.all.records ≡ records)
      → AreNumbered 0 records → kept (journal_of new) (first_block (preface_of new) start ∷ blocks) → IsOneRun answers saved is_saveable kept first records new
  is_run first records new start blocks y numbered is_kept = record { start = start; blocks = blocks; since = y.0; are = y.1; numbered = numbered; is_kept = is_kept }

  -- more records follow
  longer : (first : H) (start : Option Snapshot) (blocks : List (List ℕ)) (old new : Holding H) (x : IsRunSince (answer_step answers) saved is_saveable first start blocks old)
      (f : RecordsFollow (answer_step answers) old new)
      → (y : IsRunSince (answer_step answers) saved is_saveable first start blocks new) × (y.all.records ≡ x.all.records ++ f.plays.leads.records)
  longer first start blocks old new x f =
      let y = after_answers answers saved is_saveable first start blocks old new x f in
      let more = f.plays.leads in
      let text : x.bytes ++ (concat blocks ++ new.batch) ≡ (x.bytes ++ (concat blocks ++ old.batch)) ++ f.more =
      ap (λ (t : List ℕ). x.bytes ++ (concat blocks ++ t)) f.longer ∙ ap (λ (t : List ℕ). x.bytes ++ t) (sym (append_assoc (concat blocks) old.batch f.more))
      ∙ sym (append_assoc x.bytes (concat blocks ++ old.batch) f.more) in
      let told : (x.bytes ++ (concat blocks ++ old.batch)) ++ f.more ≡ records_bytes (x.all.records ++ more.records) =
      (λ i. x.all.spelled i ++ more.spelled i) ∙ sym (flat_map-append record_bytes x.all.records more.records) in (
        y,
        same_records (answer_step answers) _ _ _ _ _ y.all (x.all.records ++ more.records) (All-append IsRecord x.all.records more.records x.all.are more.are) (text ∙ told),
      )

  pub goes_on_runs : (old new : Kept H J) → GoesOn answers is_clean kept old new → RunGoesOn answers saved is_saveable is_clean kept old new
  goes_on_runs old new goes = record {
    clean = goes.clean;
    goes_on = λ clean first records one.
        let more = goes.follows.plays.leads.records in
        let y = longer first one.start one.blocks (held_by old) (held_by new) one.since goes.follows in
        let count : (held_by old).tokens ≡ 0 + count_tokens records = one.since.all.counted ∙ ap count_tokens one.are ∙ omega arith in (
          more,
          is_run first (records ++ more) new one.start one.blocks (y.0, y.1 ∙ ap (λ (rs : List RecordView). rs ++ more) one.are)
              (numbered_then 0 (held_by old).tokens records more count one.numbered goes.numbered)
              (subst (λ (p : Preface). kept (journal_of new) (first_block p one.start ∷ one.blocks)) (sym goes.stays.0) (goes.keeps (first_block (preface_of old) one.start ∷ one.blocks) one.is_kept)),
        );
  }

  pub same_runs : (old new : Kept H J) → new ≡ old → RunGoesOn answers saved is_saveable is_clean kept old new
  same_runs old new e = goes_on_runs old new (goes_on_same answers is_clean kept old new e)

  pub runs_then : (a b c : Kept H J) → RunGoesOn answers saved is_saveable is_clean kept a b → RunGoesOn answers saved is_saveable is_clean kept b c
      → RunGoesOn answers saved is_saveable is_clean kept a c
  runs_then a b c x y = record {
    clean = λ is. x.clean (y.clean is);
    goes_on = λ is first records one.
        let mid = x.goes_on (y.clean is) first records one in
        let end = y.goes_on is first (records ++ mid.0) mid.1 in (
          mid.0 ++ end.0,
          subst (λ (rs : List RecordView). IsOneRun answers saved is_saveable kept first rs c) (append_assoc records mid.0 end.0) end.1,
        );
  }

  -- no record follows
  as_it_was : (first : H) (records : List RecordView) (new : Kept H J) → IsOneRun answers saved is_saveable kept first records new
      → (more : List RecordView) × IsOneRun answers saved is_saveable kept first (records ++ more) new
  as_it_was first records new one = ([], subst (λ (rs : List RecordView). IsOneRun answers saved is_saveable kept first rs new) (sym (append-nil records)) one)

  -- a block more, after the first and the others
  first_stays : (first : List ℕ) (blocks : List (List ℕ)) (batch : List ℕ) → with_batch (first ∷ blocks) batch ≡ first ∷ with_batch blocks batch
  first_stays first blocks [] = refl
  first_stays first blocks (b ∷ batch) = refl

  -- the run after a commit, and after a snapshot
  committed_run : (first : H) (start : Option Snapshot) (blocks : List (List ℕ)) (old : Holding H) (x : IsRunSince (answer_step answers) saved is_saveable first start blocks old)
      → (y : IsRunSince (answer_step answers) saved is_saveable first start (with_batch blocks old.batch) (committed old)) × (y.all.records ≡ x.all.records)
  committed_run first start blocks old x =
      let y = after_commit answers saved is_saveable first start blocks old x in (
        y,
        same_records (answer_step answers) _ _ _ _ _ y.all x.all.records x.all.are (ap (λ (t : List ℕ). x.bytes ++ t) (batch_joins blocks old.batch) ∙ x.all.spelled),
      )

  -- the run over other blocks of the same bytes
  regrouped : (first : H) (start : Option Snapshot) (blocks others : List (List ℕ)) (now : Holding H) → concat others ≡ concat blocks
      → (x : IsRunSince (answer_step answers) saved is_saveable first start blocks now)
      → (y : IsRunSince (answer_step answers) saved is_saveable first start others now) × (y.all.records ≡ x.all.records)
  regrouped first start blocks others now same x =
      let y = in_blocks answers saved is_saveable first start blocks others now same x in (
        y,
        same_records (answer_step answers) _ _ _ _ _ y.all x.all.records x.all.are (ap (λ (t : List ℕ). x.bytes ++ (t ++ now.batch)) same ∙ x.all.spelled),
      )

  saved_run : (first : H) (start : Option Snapshot) (blocks : List (List ℕ)) (old : Holding H) → is_saveable old.state
      → (x : IsRunSince (answer_step answers) saved is_saveable first start blocks old)
      → (y : IsRunSince (answer_step answers) saved is_saveable first (Some (snapshot_of saved (committed old))) [] (committed old)) × (y.all.records ≡ x.all.records)
  saved_run first start blocks old can x =
      let mid = committed_run first start blocks old x in
      let y = after_snapshot answers saved is_saveable first start (with_batch blocks old.batch) (committed old) refl can mid.0 in (
        y,
        same_records (answer_step answers) _ _ _ _ _ y.all mid.0.all.records mid.0.all.are (append-nil _ ∙ mid.0.all.spelled) ∙ mid.1,
      )

  committed_is : (old new : Kept H J) (first : H) (records : List RecordView) (one : IsOneRun answers saved is_saveable kept first records old) → held_by new ≡ committed (held_by old)
      → StaysInJournal old new → kept (journal_of new) (with_batch (first_block (preface_of old) one.start ∷ one.blocks) (held_by old).batch)
      → IsOneRun answers saved is_saveable kept first records new
  committed_is old new first records one held stays is_kept =
      let batch = (held_by old).batch in
      let mid = committed_run first one.start one.blocks (held_by old) one.since in
      let y = moved first one.start (with_batch one.blocks batch) (committed (held_by old)) (held_by new) held mid.0 in
      is_run first records new one.start (with_batch one.blocks batch) (y.0, y.1 ∙ mid.1 ∙ one.are) one.numbered
      (subst (λ (p : Preface). kept (journal_of new) (first_block p one.start ∷ with_batch one.blocks batch)) (sym stays.0)
      (subst (kept (journal_of new)) (first_stays (first_block (preface_of old) one.start) one.blocks batch) is_kept))

  pub commits_runs : (old new : Kept H J) → Commits is_clean kept old new → RunGoesOn answers saved is_saveable is_clean kept old new
  commits_runs old new commits = record {
    clean = commits.clean;
    goes_on = λ clean first records one.
        as_it_was first records new
        (committed_is old new first records one commits.held commits.stays (commits.keeps (first_block (preface_of old) one.start ∷ one.blocks) one.is_kept));
  }

  saved_is : (old new : Kept H J) (first : H) (records : List RecordView) (one : IsOneRun answers saved is_saveable kept first records old) → held_by new ≡ committed (held_by old)
      → StaysInJournal old new → (made : Bool) → (IsTrue made → is_saveable (held_by old).state)
      → kept (journal_of new) (with_snapshot made (first_block (preface_of old) (Some (snapshot_of saved (held_by old)))) (with_batch (first_block (preface_of old) one.start ∷ one.blocks) (held_by old).batch))
      → IsOneRun answers saved is_saveable kept first records new
  saved_is old new first records one held stays false can is_kept = committed_is old new first records one held stays is_kept
  saved_is old new first records one held stays true can is_kept =
      let start : Option Snapshot = Some (snapshot_of saved (committed (held_by old))) in
      let mid = saved_run first one.start one.blocks (held_by old) (can refl) one.since in
      let y = moved first start [] (committed (held_by old)) (held_by new) held mid.0 in
      is_run first records new start [] (y.0, y.1 ∙ mid.1 ∙ one.are) one.numbered
      (subst (λ (p : Preface). kept (journal_of new) (first_block p start ∷ [])) (sym stays.0) is_kept)

  pub saves_runs : (old new : Kept H J) → Saves saved is_saveable is_clean kept old new → RunGoesOn answers saved is_saveable is_clean kept old new
  saves_runs old new saves = record {
    clean = saves.clean;
    goes_on = λ clean first records one.
        as_it_was first records new
        (saved_is old new first records one saves.held saves.stays saves.is_made saves.saveable (saves.keeps clean (first_block (preface_of old) one.start ∷ one.blocks) one.is_kept));
  }

  -- a second passed, in which the journal may have begun anew
  pub kept_runs : (old new : Kept H J) → StaysKept is_clean kept old new ⊎ Saves saved is_saveable is_clean kept old new → RunGoesOn answers saved is_saveable is_clean kept old new
  kept_runs old new (inl stays) = goes_on_runs old new (goes_on_held answers is_clean kept old new stays.held stays.stays stays.clean stays.keeps)
  kept_runs old new (inr saves) = saves_runs old new saves

  -- the same with nothing after it
  pub kept_then : (a b c : Kept H J) → StaysKept is_clean kept a b ⊎ Saves saved is_saveable is_clean kept a b → StaysKept is_clean kept b c
      → StaysKept is_clean kept a c ⊎ Saves saved is_saveable is_clean kept a c
  kept_then a b c (inl x) y = inl (record {
    held = y.held ∙ x.held;
    stays = (y.stays.0 ∙ x.stays.0, y.stays.1 ∙ x.stays.1);
    clean = λ is. x.clean (y.clean is);
    keeps = λ blocks is. y.keeps blocks (x.keeps blocks is);
  })
  kept_then a b c (inr x) y = inr (record {
    is_made = x.is_made;
    saveable = x.saveable;
    held = y.held ∙ x.held;
    stays = (y.stays.0 ∙ x.stays.0, y.stays.1 ∙ x.stays.1);
    clean = λ is. x.clean (y.clean is);
    keeps = λ is blocks before. y.keeps _ (x.keeps (y.clean is) blocks before);
  })

  -- a run of which nothing is added stays one of the same records
  pub no_more_runs : (old new : Kept H J) → StaysKept is_clean kept old new ⊎ Saves saved is_saveable is_clean kept old new
      → is_clean (journal_of new) → (first : H) (records : List RecordView) → IsOneRun answers saved is_saveable kept first records old
      → IsOneRun answers saved is_saveable kept first records new
  no_more_runs old new (inl stays) clean first records one =
      let y = moved first one.start one.blocks (held_by old) (held_by new) stays.held one.since in
      is_run first records new one.start one.blocks (y.0, y.1 ∙ one.are) one.numbered
      (subst (λ (p : Preface). kept (journal_of new) (first_block p one.start ∷ one.blocks)) (sym stays.stays.0) (stays.keeps (first_block (preface_of old) one.start ∷ one.blocks) one.is_kept))
  no_more_runs old new (inr saves) clean first records one =
      saved_is old new first records one saves.held saves.stays saves.is_made saves.saveable (saves.keeps clean (first_block (preface_of old) one.start ∷ one.blocks) one.is_kept)

-- ---- a server that begins

module _ {H J : Type 0} (answers : H → RequestView → Response → H → Type 0) (saved : H → List ℕ) (is_saveable : H → Type 0) (loads : H → List ℕ → H → Type 0)
    (kept has_read : J → List (List ℕ) → Type 0) (C : Type 0) (old new : Kept H J) (is_noted : Bool) where
  -- the block of an opening comes after the first and the others
  noted_behind : (first : List ℕ) (blocks : List (List ℕ)) (b : Bool) → with_opening b (first ∷ blocks) ≡ first ∷ with_opening b blocks
  noted_behind first blocks true = refl
  noted_behind first blocks false = refl

  kept_at : (start : Option Snapshot) (blocks : List (List ℕ)) (b : Bool) → is_new old ≡ b → has_read (journal_of old) (with_first b (first_block (preface_of old) start) blocks)
      → (b ≡ true → (blocks ≡ []) × (start ≡ None))
      → (is_new old ≡ true → C → has_read (journal_of old) [] → kept (journal_of new) (first_block (preface_of old) None ∷ []))
      → (is_new old ≡ false → C → (bs : List (List ℕ)) → has_read (journal_of old) bs → kept (journal_of new) (with_opening is_noted bs))
      → C → (now : List (List ℕ)) × (concat now ≡ concat blocks) × kept (journal_of new) (first_block (preface_of old) start ∷ now)
  kept_at start blocks true e read empty fresh again clean =
      let none = empty refl in (
        blocks,
        refl,
        subst (λ (bs : List (List ℕ)). kept (journal_of new) (first_block (preface_of old) start ∷ bs)) (sym none.0)
            (subst (λ (s : Option Snapshot). kept (journal_of new) (first_block (preface_of old) s ∷ [])) (sym none.1) (fresh e clean read)),
      )
  kept_at start blocks false e read empty fresh again clean = (
    with_opening is_noted blocks,
    opening_joins is_noted blocks,
    subst (λ (bs : List (List ℕ)). kept (journal_of new) bs) (noted_behind (first_block (preface_of old) start) blocks is_noted) (again e clean (first_block (preface_of old) start ∷ blocks) read),
  )

  pub begun : (first : H) (start : Option Snapshot) (blocks : List (List ℕ)) → IsOpened answers loads has_read first start blocks old
      → (since : IsRunSince (answer_step answers) saved is_saveable first start blocks (held_by old)) → AreNumbered 0 since.all.records
      → held_by new ≡ held_by old → preface_of new ≡ preface_of old
      → (is_new old ≡ true → C → has_read (journal_of old) [] → kept (journal_of new) (first_block (preface_of old) None ∷ []))
      → (is_new old ≡ false → C → (bs : List (List ℕ)) → has_read (journal_of old) bs → kept (journal_of new) (with_opening is_noted bs))
      → C → IsOneRun answers saved is_saveable kept first since.all.records new
  begun first start blocks o since numbered held preface fresh again clean =
      let (now, same, is_kept) = kept_at start blocks (is_new old) refl o.read o.none fresh again clean in
      let x = regrouped answers saved is_saveable (λ _. C) kept first start blocks now (held_by old) same since in
      let y = moved answers saved is_saveable (λ _. C) kept first start now (held_by old) (held_by new) held x.0 in
      is_run answers saved is_saveable (λ _. C) kept first since.all.records new start now (y.0, y.1 ∙ x.1) numbered
      (subst (λ (p : Preface). kept (journal_of new) (first_block p start ∷ now)) (sym preface) is_kept)

-- ---- a server that starts over what is left

module _ {S : Type 0} (answers : S → RequestView → Response → S → Type 0) (saved : S → List ℕ) (is_saveable : S → Type 0) (loads : S → List ℕ → S → Type 0)
    (back : LoadsWhatWasSaved answers saved is_saveable loads) (one_step : IsDetermined (answer_step answers)) (first : S) where
  -- where all records were run, what is held is what was held
  held_again : (bytes text : List ℕ) (old new : Holding S) (x : Leads (answer_step answers) bytes first old.state old.tokens old.latest)
      (y : Leads (answer_step answers) text first new.state new.tokens new.latest) → new.batch ≡ [] → y.records ≡ x.records → new ≡ committed old
  held_again bytes text old new x y none same =
      let state : new.state ≡ old.state =
      one_end answers one_step x.records first new.state old.state (subst (λ (rs : List RecordView). RecordsRun (answer_step answers) first rs new.state) same y.runs) x.runs in
      let tokens : new.tokens ≡ old.tokens = y.counted ∙ ap count_tokens same ∙ sym x.counted in
      let latest : new.latest ≡ old.latest = y.last ∙ ap latest_moment same ∙ sym x.last in
      λ i. record { state = state i; batch = none i; tokens = tokens i; latest = latest i }

  -- all records were run
  whole_start : (records : List RecordView) (start : Option Snapshot) (blocks : List (List ℕ)) (bytes : List ℕ) (old new : Holding S)
      (x : Leads (answer_step answers) bytes first old.state old.tokens old.latest) → x.records ≡ records → AreNumbered 0 records
      → (y : IsRunSince (answer_step answers) saved is_saveable first start blocks new) → y.all.records ≡ x.records → new.batch ≡ []
      → StartsWith answers saved is_saveable first records old start blocks new
  whole_start records start blocks bytes old new x are numbered y same none = record {
    since = y;
    rest = [];
    front = sym are ∙ sym same ∙ sym (append-nil y.all.records);
    numbered = subst (AreNumbered 0) (sym (same ∙ are)) numbered;
    unreleased = inl refl;
    whole = λ _. held_again bytes _ old new x y.all none same;
  }

  -- those in the batch may be left out
  front_start : (records : List RecordView) (start : Option Snapshot) (blocks : List (List ℕ)) (old new : Holding S)
      (x : IsRunSince (answer_step answers) saved is_saveable first start blocks old) → x.all.records ≡ records → AreNumbered 0 records
      → IsRunOf (answer_step answers) loads first start blocks new → new.batch ≡ [] → StartsWith answers saved is_saveable first records old start blocks new
  front_start records start blocks old new x are numbered run none =
      let y = after_start answers saved is_saveable loads first back start blocks blocks old new x run in
      let text : records_bytes y.all.records ++ old.batch ≡ records_bytes x.all.records =
      ap (λ (t : List ℕ). t ++ old.batch) (sym y.all.spelled ∙ ap (λ (t : List ℕ). x.bytes ++ (concat blocks ++ t)) none ∙ ap (λ (t : List ℕ). x.bytes ++ t) (append-nil (concat blocks)))
      ∙ append_assoc x.bytes (concat blocks) old.batch ∙ x.all.spelled in
      let parts = first_records y.all.records x.all.records old.batch y.all.are x.all.are text in
      record {
        since = y;
        rest = parts.0;
        front = sym are ∙ parts.1;
        numbered = numbered_front 0 y.all.records parts.0 (subst (AreNumbered 0) (sym are ∙ parts.1) numbered);
        unreleased = inr parts.2;
        whole = λ empty. held_again _ _ old new x.all y.all none
            (sym (append-nil y.all.records) ∙ ap (λ (rs : List RecordView). y.all.records ++ rs) (sym empty) ∙ sym parts.1);
      }

  pub starts : {J : Type 0} (kept has_read : J → List (List ℕ) → Type 0) (records : List RecordView) (old new : Kept S J) (one : IsOneRun answers saved is_saveable kept first records old)
      (start : Option Snapshot) (blocks : List (List ℕ)) → IsLeft saved is_saveable one.start one.blocks (held_by old) start blocks
      → IsOpened answers loads has_read first start blocks new → (held_by new).batch ≡ []
      → StartsWith answers saved is_saveable first records (held_by old) start blocks (held_by new)
  starts kept has_read records old new one _ _ as_before opened none =
      front_start records one.start one.blocks (held_by old) (held_by new) one.since one.are one.numbered opened.run none
  starts {J} kept has_read records old new one _ _ with_the_batch opened none =
      let blocks = with_batch one.blocks (held_by old).batch in
      let mid = committed_run {H = S} {J = J} answers saved is_saveable (λ _. Unit {0}) kept first one.start one.blocks (held_by old) one.since in
      let y = after_start answers saved is_saveable loads first back one.start blocks blocks (committed (held_by old)) (held_by new) mid.0 opened.run in
      let same : y.all.records ≡ mid.0.all.records =
      same_records (answer_step answers) _ _ _ _ _ y.all mid.0.all.records mid.0.all.are (ap (λ (t : List ℕ). mid.0.bytes ++ (concat blocks ++ t)) none ∙ mid.0.all.spelled) in
      whole_start records one.start blocks _ (held_by old) (held_by new) one.since.all one.are one.numbered y (same ∙ mid.1) none
  starts {J} kept has_read records old new one _ _ (begun_anew can) opened none =
      let start : Option Snapshot = Some (snapshot_of saved (held_by old)) in
      let mid = saved_run {H = S} {J = J} answers saved is_saveable (λ _. Unit {0}) kept first one.start one.blocks (held_by old) can one.since in
      let y = after_start answers saved is_saveable loads first back start [] [] (committed (held_by old)) (held_by new) mid.0 opened.run in
      let same : y.all.records ≡ mid.0.all.records =
      same_records (answer_step answers) _ _ _ _ _ y.all mid.0.all.records mid.0.all.are (ap (λ (t : List ℕ). mid.0.bytes ++ t) none ∙ mid.0.all.spelled) in
      whole_start records start [] _ (held_by old) (held_by new) one.since.all one.are one.numbered y (same ∙ mid.1) none
