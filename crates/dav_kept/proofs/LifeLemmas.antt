-- The life of a server.
use Rattle.std.proofs.Common.{arith, ◌≡◌, ℕ, ◌+◌, max, Bool, true, false, Option, Some, None, List, [], ◌∷◌, ◌++◌, refl, sym, ap, ◌∙◌, subst, append_assoc, append-nil}
use Rattle.std.specs.List.{concat}
use Rattle.std.proofs.lemmas.List.Folds.{concat-append}
use Rattle.std.proofs.lemmas.List.Elements.{All-nil}
use Rattle.http_server.specs.declared.response.Response.{Response}
use Rattle.dav_kept.specs.Kept.{Begins, RecordsFollow, Holding, IsRunOf, Leads, LoadsWhatWasSaved, PlaysRecords, RecordsRun, Snapshot, after, answer_step, committed, first_day, snapshot_of, with_batch, with_opening}
use Rattle.dav_kept.specs.Life.{FollowersGoOn, IsBeginning, IsDetermined, IsRunSince, LeftCanBeLeftOut, Lives, LivesAreRuns, LoadsOne, ReadersChangeNothing, RunsAreOne, recorded_in, record_of, with_change}
use Rattle.dav_kept.specs.Records.{IsRecord, RecordView, RequestView, records_bytes, latest_moment, record_bytes, count_tokens}
use Rattle.dav_kept.specs.declared.handler.Effect.{Effect}
use Rattle.dav_kept.specs.declared.handler.Effect.TheVariants as effect
use Rattle.dav_kept.proofs.KeptLemmas.{concat_more, leads_append, leads_none, one_reading, plays_append, plays_none}

-- a commit keeps the bytes of the records
pub batch_joins : (blocks : List (List ℕ)) (batch : List ℕ) → concat (with_batch blocks batch) ++ [] ≡ concat blocks ++ batch
batch_joins blocks [] = refl
batch_joins blocks (b ∷ batch) = append-nil (concat (blocks ++ (b ∷ batch) ∷ [])) ∙ concat_more blocks (b ∷ batch)

-- the block of an opening has no record
pub opening_joins : (is_noted : Bool) (blocks : List (List ℕ)) → concat (with_opening is_noted blocks) ≡ concat blocks
opening_joins true blocks = concat_more blocks [] ∙ append-nil (concat blocks)
opening_joins false blocks = refl

-- records are played alike over what is held with another batch
pub plays_from : {S : Type 0} (step : S → RecordView → S → Type 0) (bytes : List ℕ) (a b c : Holding S) → b.state ≡ a.state → b.tokens ≡ a.tokens → b.latest ≡ a.latest → PlaysRecords step bytes a c → PlaysRecords step bytes b c
plays_from step bytes a b c state tokens latest p = record {
  tokens = p.tokens;
  latest = p.latest;
  leads = subst (λ s. Leads step bytes s c.state p.tokens p.latest) (sym state) p.leads;
  counted = p.counted ∙ ap (λ (n : ℕ). n + p.tokens) (sym tokens);
  last = p.last ∙ ap (λ (n : ℕ). max n p.latest) (sym latest);
}

module _ {S : Type 0} (answers : S → RequestView → Response → S → Type 0) (saved : S → List ℕ) (is_saveable : S → Type 0) (first : S) where
  -- the run since the first day, from a beginning on
  abbrev pub since : (start : Option Snapshot) (blocks : List (List ℕ)) (now : Holding S) (bytes : List ℕ) (begin : Holding S) → Leads (answer_step answers) bytes first begin.state begin.tokens begin.latest
      → IsBeginning saved is_saveable first bytes begin start → PlaysRecords (answer_step answers) (concat blocks ++ now.batch) begin now → IsRunSince (answer_step answers) saved is_saveable first start blocks now
  since start blocks now bytes begin before beginning plays = record {
    bytes = bytes;
    begin = begin;
    before = before;
    beginning = beginning;
    plays = plays;
    all =
        let step = answer_step answers in
        let whole = bytes ++ (concat blocks ++ now.batch) in
        let joined = leads_append step bytes (concat blocks ++ now.batch) first begin.state now.state begin.tokens plays.tokens begin.latest plays.latest before plays.leads in
        subst (λ (n : ℕ). Leads step whole first now.state n now.latest) (sym plays.counted)
        (subst (λ (l : ℕ). Leads step whole first now.state (begin.tokens + plays.tokens) l) (sym plays.last) joined);
  }

  -- more records follow
  abbrev pub after_answers : (start : Option Snapshot) (blocks : List (List ℕ)) (old new : Holding S) → IsRunSince (answer_step answers) saved is_saveable first start blocks old → RecordsFollow (answer_step answers) old new
      → IsRunSince (answer_step answers) saved is_saveable first start blocks new
  after_answers start blocks old new x f =
      let bytes : (concat blocks ++ old.batch) ++ f.more ≡ concat blocks ++ new.batch =
      append_assoc (concat blocks) old.batch f.more ∙ ap (λ (t : List ℕ). concat blocks ++ t) (sym f.longer) in
      since start blocks new x.bytes x.begin x.before x.beginning
      (subst (λ (t : List ℕ). PlaysRecords (answer_step answers) t x.begin new) bytes (plays_append (answer_step answers) (concat blocks ++ old.batch) f.more x.begin old new x.plays f.plays))

  abbrev pub after_commit : (start : Option Snapshot) (blocks : List (List ℕ)) (old : Holding S) → IsRunSince (answer_step answers) saved is_saveable first start blocks old
      → IsRunSince (answer_step answers) saved is_saveable first start (with_batch blocks old.batch) (committed old)
  after_commit start blocks old x =
      since start (with_batch blocks old.batch) (committed old) x.bytes x.begin x.before x.beginning
      (subst (λ (t : List ℕ). PlaysRecords (answer_step answers) t x.begin (committed old)) (sym (batch_joins blocks old.batch))
      (record { tokens = x.plays.tokens; latest = x.plays.latest; leads = x.plays.leads; counted = x.plays.counted; last = x.plays.last }))

  -- the same bytes in other blocks
  abbrev pub in_blocks : (start : Option Snapshot) (blocks others : List (List ℕ)) (now : Holding S) → concat others ≡ concat blocks → IsRunSince (answer_step answers) saved is_saveable first start blocks now
      → IsRunSince (answer_step answers) saved is_saveable first start others now
  in_blocks start blocks others now same x =
      since start others now x.bytes x.begin x.before x.beginning
      (subst (λ (t : List ℕ). PlaysRecords (answer_step answers) (t ++ now.batch) x.begin now) (sym same) x.plays)

  abbrev pub after_snapshot : (start : Option Snapshot) (blocks : List (List ℕ)) (old : Holding S) → old.batch ≡ [] → is_saveable old.state → IsRunSince (answer_step answers) saved is_saveable first start blocks old
      → IsRunSince (answer_step answers) saved is_saveable first (Some (snapshot_of saved old)) [] old
  after_snapshot start blocks old none can x =
      since (Some (snapshot_of saved old)) [] old (x.bytes ++ (concat blocks ++ old.batch)) old x.all (refl, can)
      (subst (λ (t : List ℕ). PlaysRecords (answer_step answers) t old old) (sym none) (plays_none (answer_step answers) old))

module _ {S : Type 0} (answers : S → RequestView → Response → S → Type 0) (saved : S → List ℕ) (is_saveable : S → Type 0) (loads : S → List ℕ → S → Type 0) (first : S) where
  -- a start begins with what was held where the journal begins
  pub same_beginning : LoadsWhatWasSaved answers saved is_saveable loads → (start : Option Snapshot) (bytes : List ℕ) (was now : Holding S) → Leads (answer_step answers) bytes first was.state was.tokens was.latest
      → IsBeginning saved is_saveable first bytes was start → Begins loads first start now → (now.state ≡ was.state) × (now.tokens ≡ was.tokens) × (now.latest ≡ was.latest)
  same_beginning back None bytes was now before begins is =
      let same = is ∙ sym begins.1 in (ap (λ (h : Holding S). h.state) same, ap (λ (h : Holding S). h.tokens) same, ap (λ (h : Holding S). h.latest) same)
  same_beginning back (Some s) bytes was now before begins is = (
    back first was.state now.state before.records before.runs begins.1 (subst (λ (t : Snapshot). loads first t.saved now.state) begins.0 is.1),
    ap (λ (h : Holding S). h.tokens) is.0 ∙ ap (λ (t : Snapshot). t.tokens) begins.0,
    ap (λ (h : Holding S). h.latest) is.0 ∙ ap (λ (t : Snapshot). t.latest) begins.0,
  )

  -- a start over what is left, which begins as a run since the first day does
  abbrev pub after_start : LoadsWhatWasSaved answers saved is_saveable loads → (start : Option Snapshot) (blocks left : List (List ℕ)) (old new : Holding S) → IsRunSince (answer_step answers) saved is_saveable first start blocks old
      → IsRunOf (answer_step answers) loads first start left new → IsRunSince (answer_step answers) saved is_saveable first start left new
  after_start back start blocks left old new x run =
      let same = same_beginning back start x.bytes x.begin run.begin x.before x.beginning run.begins in
      since answers saved is_saveable first start left new x.bytes x.begin x.before x.beginning (plays_from (answer_step answers) (concat left ++ new.batch) run.begin x.begin new (sym same.0) (sym same.1) (sym same.2) run.plays)

  lives_since : LoadsWhatWasSaved answers saved is_saveable loads → (start : Option Snapshot) (blocks : List (List ℕ)) (now : Holding S) → Lives answers saved is_saveable loads first start blocks now
      → IsRunSince (answer_step answers) saved is_saveable first start blocks now
  lives_since back _ _ _ Lives.begins = since answers saved is_saveable first None [] (first_day first) [] (first_day first) (leads_none (answer_step answers) first) (refl, refl) (plays_none (answer_step answers) (first_day first))
  lives_since back start blocks new (Lives.answered {old = old} x f) = after_answers answers saved is_saveable first start blocks old new (lives_since back start blocks old x) f
  lives_since back _ _ _ (Lives.commits {start} {blocks} {old} x) = after_commit answers saved is_saveable first start blocks old (lives_since back start blocks old x)
  lives_since back _ _ _ (Lives.saves {start} {blocks} {old} x none can) = after_snapshot answers saved is_saveable first start blocks old none can (lives_since back start blocks old x)
  lives_since back _ _ _ (Lives.opens {start} {blocks} {old} x) = in_blocks answers saved is_saveable first start blocks (with_opening true blocks) old (opening_joins true blocks) (lives_since back start blocks old x)
  lives_since back _ _ _ (Lives.starts {start} {blocks} {old} {new} x none run) = after_start back start blocks blocks old new (lives_since back start blocks old x) run
  lives_since back _ _ _ (Lives.starts_after_a_commit {start} {blocks} {old} {new} x none run) =
      after_start back start (with_batch blocks old.batch) (with_batch blocks old.batch) (committed old) new (after_commit answers saved is_saveable first start blocks old (lives_since back start blocks old x)) run
  lives_since back _ _ _ (Lives.starts_after_a_snapshot {start} {blocks} {old} {new} x empty can none run) =
      after_start back (Some (snapshot_of saved old)) [] [] old new (after_snapshot answers saved is_saveable first start blocks old empty can (lives_since back start blocks old x)) run

pub lives_are_runs : {S : Type 0} (answers : S → RequestView → Response → S → Type 0) (saved : S → List ℕ) (is_saveable : S → Type 0) (loads : S → List ℕ → S → Type 0) → LoadsWhatWasSaved answers saved is_saveable loads → LivesAreRuns answers saved is_saveable loads
lives_are_runs answers saved is_saveable loads back first start blocks now x = lives_since answers saved is_saveable loads first back start blocks now x

module _ {S : Type 0} (answers : S → RequestView → Response → S → Type 0) where
  -- records lead from one state to one state, where each does
  pub one_end : IsDetermined (answer_step answers) → (rs : List RecordView) (old a b : S) → RecordsRun (answer_step answers) old rs a → RecordsRun (answer_step answers) old rs b → a ≡ b
  one_end one [] old a b x y = x ∙ sym y
  one_end one (r ∷ rs) old a b x y =
      let mid = one old r x.0 y.0 x.1 y.1 in
      one_end one rs x.0 a b x.2 (subst (λ s. RecordsRun (answer_step answers) s rs b) (sym mid) y.2)

  -- two starts over one beginning
  one_beginning : (loads : S → List ℕ → S → Type 0) (first : S) (start : Option Snapshot) (a b : Holding S) → Begins loads first start a → Begins loads first start b
      → (a.tokens ≡ b.tokens) × (a.latest ≡ b.latest) × (LoadsOne loads → a.state ≡ b.state)
  one_beginning loads first None a b x y = (
    ap (λ (h : Holding S). h.tokens) (x ∙ sym y),
    ap (λ (h : Holding S). h.latest) (x ∙ sym y),
    λ one. ap (λ (h : Holding S). h.state) (x ∙ sym y),
  )
  one_beginning loads first (Some s) a b x y = (
    ap (λ (h : Holding S). h.tokens) x.0 ∙ sym (ap (λ (h : Holding S). h.tokens) y.0),
    ap (λ (h : Holding S). h.latest) x.0 ∙ sym (ap (λ (h : Holding S). h.latest) y.0),
    λ one. one first a.state b.state s.saved x.1 y.1,
  )

  pub runs_are_one : (loads : S → List ℕ → S → Type 0) → RunsAreOne answers loads
  runs_are_one loads first start blocks a b x y batch =
      let (tokens, latest, state) = one_beginning loads first start x.begin y.begin x.begins y.begins in
      let one = x.plays.leads in
      let other = y.plays.leads in
      let same : one.records ≡ other.records = one_reading one.records other.records one.are other.are
      (sym one.spelled ∙ ap (λ (t : List ℕ). concat blocks ++ t) batch ∙ other.spelled) in
      let counted : x.plays.tokens ≡ y.plays.tokens = one.counted ∙ ap count_tokens same ∙ sym other.counted in
      let last : x.plays.latest ≡ y.plays.latest = one.last ∙ ap latest_moment same ∙ sym other.last in (
        same,
        x.plays.counted ∙ ap (λ (n : ℕ). n + x.plays.tokens) tokens ∙ ap (λ (n : ℕ). y.begin.tokens + n) counted ∙ sym y.plays.counted,
        x.plays.last ∙ ap (λ (n : ℕ). max n x.plays.latest) latest ∙ ap (λ (n : ℕ). max y.begin.latest n) last ∙ sym y.plays.last,
        (λ determined loaded. one_end determined one.records x.begin.state a.state b.state one.runs
            (subst (λ (rs : List RecordView). RecordsRun (answer_step answers) x.begin.state rs b.state) (sym same)
            (subst (λ s. RecordsRun (answer_step answers) s other.records b.state) (sym (state loaded)) other.runs))),
      )

  -- one call, of either kind, and then others
  left_out_first : (r : RecordView) (does : Effect) (old mid new : Holding S) (rs : List RecordView) → answer_step answers old.state r mid.state
      → mid ≡ after old r does mid.state → new.batch ≡ mid.batch ++ records_bytes rs → RecordsRun (answer_step answers) mid.state rs new.state
      → (new.batch ≡ old.batch ++ records_bytes (with_change does r rs)) × RecordsRun (answer_step answers) old.state (with_change does r rs) new.state
  left_out_first r effect.Left old mid new rs step is batch run = (
    batch ∙ ap (λ (h : Holding S). h.batch ++ records_bytes rs) is,
    subst (λ (h : Holding S). RecordsRun (answer_step answers) h.state rs new.state) is run,
  )
  left_out_first r effect.Changed old mid new rs step is batch run = (
    batch ∙ ap (λ (h : Holding S). h.batch ++ records_bytes rs) is ∙ append_assoc old.batch (record_bytes r) (records_bytes rs),
    (mid.state, step, run),
  )

  pub left_can_be_left_out : LeftCanBeLeftOut answers
  left_can_be_left_out old new [] e = (ap (λ (h : Holding S). h.batch) e ∙ sym (append-nil old.batch), ap (λ (h : Holding S). h.state) e, ap (λ (h : Holding S). h.state) e)
  left_can_be_left_out old new (x ∷ xs) e =
      let mid = e.0 in
      let call = e.1 in
      let later = left_can_be_left_out mid new xs e.2 in
      let step : answer_step answers old.state (record_of x) mid.state = (x.response, refl, call.is_answer) in
      let first = left_out_first (record_of x) x.does old mid new (recorded_in xs) step call.held later.0 later.2 in
      (first.0, (mid.state, step, later.1), first.1)

-- ---- behind another server

module _ {S : Type 0} (answers : S → RequestView → Response → S → Type 0) (loads : S → List ℕ → S → Type 0) where
  pub followers_go_on : FollowersGoOn answers loads
  followers_go_on first start blocks more old new run was is plays =
      let text : (concat blocks ++ old.batch) ++ concat more ≡ concat (blocks ++ more) ++ new.batch =
      ap (λ (b : List ℕ). (concat blocks ++ b) ++ concat more) was
      ∙ ap (λ (t : List ℕ). t ++ concat more) (append-nil (concat blocks))
      ∙ sym (concat-append blocks more)
      ∙ sym (append-nil (concat (blocks ++ more)))
      ∙ ap (λ (b : List ℕ). concat (blocks ++ more) ++ b) (sym is) in
      record {
        begin = run.begin;
        begins = run.begins;
        plays = subst (λ (t : List ℕ). PlaysRecords (answer_step answers) t run.begin new) text
            (plays_append (answer_step answers) (concat blocks ++ old.batch) (concat more) run.begin old new run.plays plays);
      }

  pub readers_change_nothing : ReadersChangeNothing answers
  readers_change_nothing old new f was is =
      let leads = f.plays.leads in
      let more : f.more ≡ [] = ap (λ (b : List ℕ). b ++ f.more) (sym was) ∙ sym f.longer ∙ is in
      let none : leads.records ≡ [] = one_reading leads.records [] leads.are (All-nil IsRecord) (sym leads.spelled ∙ more) in
      let state : new.state ≡ old.state = subst (λ (rs : List RecordView). RecordsRun (answer_step answers) old.state rs new.state) none leads.runs in
      let batch : new.batch ≡ old.batch = is ∙ sym was in
      let tokens : new.tokens ≡ old.tokens = f.plays.counted ∙ ap (λ (n : ℕ). old.tokens + n) (leads.counted ∙ ap count_tokens none) ∙ omega arith in
      let latest : new.latest ≡ old.latest = f.plays.last ∙ ap (λ (n : ℕ). max old.latest n) (leads.last ∙ ap latest_moment none) ∙ omega arith in
      λ i. record { state = state i; batch = batch i; tokens = tokens i; latest = latest i }
