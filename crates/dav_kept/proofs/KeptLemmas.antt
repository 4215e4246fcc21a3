-- Runs of records, and their bytes.
use Rattle.std.specs.Prelude.{IfSome, MatchOption}
use Rattle.std.specs.List.{concat}
use Rattle.std.proofs.Common.{◌≡◌, ◌≢◌, ℕ, All, Option, None, Some, ◌+◌, max, List, [], ◌∷◌, ◌++◌, length, refl, sym, ap, ◌∙◌, subst, arith, append-nil, append_assoc}
use Rattle.std.proofs.lemmas.List.Elements.{All-nil, All-cons, All-head, All-tail, All-append}
use Rattle.std.proofs.lemmas.Grind.{flat_map-append}
use Rattle.std.proofs.lemmas.List.Folds.{concat-append}
use Rattle.dav_kept.specs.Records.{IsRecord, OneReading, RecordView, records_bytes, latest_moment, record_bytes, count_tokens, token_count}
use Rattle.dav_kept.specs.declared.kept.Kept.{Kept}
use Rattle.dav_kept.specs.Kept.{RecordsFollow, Holding, Leads, PlaysRecords, Preface, RecordsRun, StaysAsKept, committed, first_block, held_by, preface_of, snapshot_of}
use Rattle.dav_kept.proofs.RecordLemmas.{one_record}

pub tokens_append : (rs qs : List RecordView) → count_tokens (rs ++ qs) ≡ count_tokens rs + count_tokens qs
tokens_append [] qs = omega arith
tokens_append (r ∷ rs) qs = omega (arith, tokens_append rs qs)

pub latest_append : (rs qs : List RecordView) → latest_moment (rs ++ qs) ≡ max (latest_moment rs) (latest_moment qs)
latest_append [] qs = omega arith
latest_append (r ∷ rs) qs = omega (arith, latest_append rs qs)

module _ {S : Type 0} (step : S → RecordView → S → Type 0) where
  pub run_append : (rs qs : List RecordView) (a b c : S) → RecordsRun step a rs b → RecordsRun step b qs c → RecordsRun step a (rs ++ qs) c
  run_append [] qs a b c x y = subst (λ t. RecordsRun step t qs c) x y
  run_append (r ∷ rs) qs a b c x y = (x.0, x.1, run_append rs qs x.0 b c x.2 y)

  abbrev pub leads_append : (xs ys : List ℕ) (a b c : S) (m n k l : ℕ) → Leads step xs a b m k → Leads step ys b c n l → Leads step (xs ++ ys) a c (m + n) (max k l)
  leads_append xs ys a b c m n k l x y = record {
    records = x.records ++ y.records;
    are = All-append IsRecord x.records y.records x.are y.are;
    spelled = (λ i. x.spelled i ++ y.spelled i) ∙ sym (flat_map-append record_bytes x.records y.records);
    runs = run_append x.records y.records a b c x.runs y.runs;
    counted = omega (arith, x.counted, y.counted, tokens_append x.records y.records);
    last = omega (arith, x.last, y.last, latest_append x.records y.records);
  }

  pub leads_none : (a : S) → Leads step [] a a 0 0
  leads_none a = record { records = []; are = All-nil IsRecord; spelled = refl; runs = refl; counted = refl; last = refl }

  pub leads_one : (r : RecordView) (a b : S) → IsRecord r → step a r b → Leads step (record_bytes r) a b (token_count r.request.token) r.request.moment
  leads_one r a b is x = record {
    records = r ∷ [];
    are = All-cons IsRecord r [] is (All-nil IsRecord);
    spelled = sym (append-nil (record_bytes r));
    runs = (b, x, refl);
    counted = omega arith;
    last = omega arith;
  }

  pub plays_none : (a : Holding S) → PlaysRecords step [] a a
  plays_none a = record { tokens = 0; latest = 0; leads = leads_none a.state; counted = omega arith; last = omega arith }

  pub plays_one : (r : RecordView) (a b : Holding S) → IsRecord r → step a.state r b.state
      → b.tokens ≡ a.tokens + token_count r.request.token → b.latest ≡ max a.latest r.request.moment → PlaysRecords step (record_bytes r) a b
  plays_one r a b is x counted last =
      record { tokens = token_count r.request.token; latest = r.request.moment; leads = leads_one r a.state b.state is x; counted = counted; last = last }

  pub plays_append : (xs ys : List ℕ) (a b c : Holding S) → PlaysRecords step xs a b → PlaysRecords step ys b c → PlaysRecords step (xs ++ ys) a c
  plays_append xs ys a b c x y = record {
    tokens = x.tokens + y.tokens;
    latest = max x.latest y.latest;
    leads = leads_append xs ys a.state b.state c.state x.tokens y.tokens x.latest y.latest x.leads y.leads;
    counted = omega (arith, x.counted, y.counted);
    last = omega (arith, x.last, y.last);
  }

-- ---- bytes have one reading as records

pub one_reading : OneReading
one_reading [] [] are others e = refl
one_reading [] (q ∷ qs) are others e = absurd (omega (arith, ap length e))
one_reading (r ∷ rs) [] are others e = absurd (omega (arith, ap length e))
one_reading (r ∷ rs) (q ∷ qs) are others e =
    let first = one_record r q (records_bytes rs) (records_bytes qs) (All-head IsRecord r rs are) (All-head IsRecord q qs others) e in
    let later = one_reading rs qs (All-tail IsRecord r rs are) (All-tail IsRecord q qs others) first.1 in
    λ i. first.0 i ∷ later i

-- the records of bytes are those that they are the bytes of
pub same_records : {S : Type 0} (step : S → RecordView → S → Type 0) (bytes : List ℕ) (a b : S) (n l : ℕ) (x : Leads step bytes a b n l) (rs : List RecordView)
    → All IsRecord rs → bytes ≡ records_bytes rs → x.records ≡ rs
same_records step bytes a b n l x rs are e = one_reading x.records rs x.are are (sym x.spelled ∙ e)

-- where the bytes of records begin with those of others, so do the records
pub first_records : (rs qs : List RecordView) (tail : List ℕ) → All IsRecord rs → All IsRecord qs → records_bytes rs ++ tail ≡ records_bytes qs
    → (rest : List RecordView) × (qs ≡ rs ++ rest) × (records_bytes rest ≡ tail)
first_records [] qs tail are others e = (qs, refl, sym e)
first_records (r ∷ rs) [] tail are others e = absurd (omega (arith, ap length e))
first_records (r ∷ rs) (q ∷ qs) tail are others e =
    let whole = sym (append_assoc (record_bytes r) (records_bytes rs) tail) ∙ e in
    let first = one_record r q (records_bytes rs ++ tail) (records_bytes qs) (All-head IsRecord r rs are) (All-head IsRecord q qs others) whole in
    let later = first_records rs qs tail (All-tail IsRecord r rs are) (All-tail IsRecord q qs others) first.1 in
    (later.0, (λ i. sym first.0 i ∷ later.1 i), later.2)

-- ---- a server that plays

pub stays_then : {H J : Type 0} (a b c : Kept H J) → StaysAsKept a b → StaysAsKept b c → StaysAsKept a c
stays_then a b c x y = record { batch = y.batch ∙ x.batch; preface = y.preface ∙ x.preface; novelty = y.novelty ∙ x.novelty }

pub stays_same : {H J : Type 0} (a : Kept H J) → StaysAsKept a a
stays_same a = record { batch = refl; preface = refl; novelty = refl }

pub concat_more : (xs : List (List ℕ)) (y : List ℕ) → concat (xs ++ y ∷ []) ≡ concat xs ++ y
concat_more xs y = concat-append xs (y ∷ []) ∙ ap (λ (t : List ℕ). concat xs ++ t) (append-nil y)

pub of_some : {A : Type 0} (N : Type 0) (P : A → Type 0) (o : Option A) (a : A) → o ≡ Some a → MatchOption o N P → P a
of_some {A} N P o a e m = subst (λ (t : Option A). MatchOption t N P) e m

pub of_none : {A : Type 0} (N : Type 0) (P : A → Type 0) (o : Option A) → ((a : A) → o ≢ Some a) → MatchOption o N P → N
of_none N P None none m = m
of_none N P (Some a) none m = absurd (none a refl)

-- ---- a server that answers

module _ {S : Type 0} (step : S → RecordView → S → Type 0) where
  pub follows_same : (old new : Holding S) → new ≡ old → RecordsFollow step old new
  follows_same old new e = record {
    more = [];
    longer = ap (λ (h : Holding S). h.batch) e ∙ sym (append-nil old.batch);
    plays = subst (λ (h : Holding S). PlaysRecords step [] old h) (sym e) (plays_none step old);
  }

  pub follows_added : (r : RecordView) (old new : Holding S) → IsRecord r → step old.state r new.state → new.batch ≡ old.batch ++ record_bytes r
      → new.tokens ≡ old.tokens + token_count r.request.token → new.latest ≡ max old.latest r.request.moment → RecordsFollow step old new
  follows_added r old new is x batch counted last = record { more = record_bytes r; longer = batch; plays = plays_one step r old new is x counted last }

pub if_some : {A : Type 0} (P : A → Type 0) (o : Option A) (x : A) → o ≡ Some x → IfSome o P → P x
if_some P o x is holds = subst (λ q. IfSome q P) is holds

-- ---- what a journal begins with

pub holding_none : {S : Type 0} (state : S) (batch : List ℕ) (tokens latest : ℕ) → batch ≡ []
    → ◌≡◌ {A = Holding S} (record { state = state; batch = batch; tokens = tokens; latest = latest }) (record { state = state; batch = []; tokens = tokens; latest = latest })
holding_none state batch tokens latest none i = record { state = state; batch = none i; tokens = tokens; latest = latest }

-- parts that are added one behind the other, to nothing
pub four_parts : (p t l s one two three four : List ℕ) → one ≡ p → two ≡ one ++ t → three ≡ two ++ l → four ≡ three ++ s → four ≡ p ++ (t ++ (l ++ s))
four_parts p t l s one two three four a b c d =
    d ∙ ap (λ (x : List ℕ). x ++ s) (c ∙ ap (λ (x : List ℕ). x ++ l) (b ∙ ap (λ (x : List ℕ). x ++ t) a)) ∙ append_assoc (p ++ t) l s ∙ append_assoc p t (l ++ s)

-- the first block of a journal that begins anew, after the batch was kept and before
pub first_same : {H J : Type 0} (saved : H → List ℕ) (old new : Kept H J) (block : List ℕ) → preface_of new ≡ preface_of old → held_by new ≡ committed (held_by old)
    → block ≡ first_block (preface_of new) (Some (snapshot_of saved (held_by new))) → block ≡ first_block (preface_of old) (Some (snapshot_of saved (held_by old)))
first_same {H} saved old new block preface held is =
    is ∙ ap (λ (p : Preface). first_block p (Some (snapshot_of saved (held_by new)))) preface ∙ ap (λ (h : Holding H). first_block (preface_of old) (Some (snapshot_of saved h))) held
