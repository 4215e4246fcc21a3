-- One report after another.
use Rattle.std.proofs.Common.{◌≡◌, ◌≢◌, ℕ, zero, suc, ◌+◌, ◌<◌, ◌⊎◌, inl, inr, Bool, true, false, not, IsTrue, IsFalse, All, List, [], ◌∷◌, ◌++◌, ◌-◌, length, length-append, take, drop, length-drop, get_or, Option, Some, None, Result, Ok, Err, OnOk, refl, sym, ap, ◌∙◌, subst, append_assoc, append-nil, arith}
use Rattle.std.proofs.lemmas.Bool.{ne_eqb, cond-false}
use Rattle.std.proofs.lemmas.List.{take_all}
use Rattle.std.proofs.lemmas.List.Concat.{flat_map-append}
use Rattle.std.proofs.lemmas.List.Elements.{All-append, All-cons, All-nil}
use Rattle.std.proofs.Math.Seq.{drop-append_seam}
use Rattle.std.specs.List.{flat_map}
use Rattle.dav_turns.specs.declared.config.TurnsConfig.{TurnsConfig}
use Rattle.dav_turns.specs.Connections.{ConnectionView, Slots}
use Rattle.dav_turns.specs.Frames.{Order, ReportView, IsReport, BeginsWith, ReadsReports, order_bytes, report_bytes}
use Rattle.dav_turns.specs.Turns.{Keeping, Server, Heard, HeardAll, IsIn, may_take_long, slot_after, orders_after}

-- ---- orders

pub no_order : (before : List ℕ) → before ≡ orders_after before []
no_order before = sym (append-nil before)

pub one_order : (before : List ℕ) (o : Order) → before ++ order_bytes o ≡ orders_after before (o ∷ [])
one_order before o = ap (λ (t : List ℕ). before ++ t) (sym (append-nil (order_bytes o)))

-- orders were written, and then more
pub orders_on : (before mid after : List ℕ) (xs ys : List Order) → mid ≡ orders_after before xs → after ≡ orders_after mid ys
    → after ≡ orders_after before (xs ++ ys)
orders_on before mid after xs ys first later =
    later
    ∙ ap (λ (t : List ℕ). orders_after t ys) first
    ∙ append_assoc before (flat_map order_bytes xs) (flat_map order_bytes ys)
    ∙ ap (λ (t : List ℕ). before ++ t) (sym (flat_map-append order_bytes xs ys))

-- ---- two clauses on Ok

pub on_ok_two : {T E P Q R : Type 0} (r : Result T E) → (P → Q → R) → OnOk r P → OnOk r Q → OnOk r R
on_ok_two (Ok a) f p q = f p q
on_ok_two (Err e) f p q = tt

-- ---- slots

pub is_in : (xs : Slots) (i : ℕ) (v : Option ConnectionView) (c : ConnectionView) → i < length xs → v ≡ get_or xs i v → v ≡ Some c → IsIn xs i c
is_in xs i v c within is some = record { within = within; is = at xs i v None within is ∙ some }
  where
    at : (xs : Slots) (i : ℕ) (v d : Option ConnectionView) → i < length xs → v ≡ get_or xs i v → get_or xs i d ≡ v
    at [] i v d within is = absurd (omega arith)
    at (x ∷ xs) zero v d within is = sym is
    at (x ∷ xs) (suc i) v d within is = at xs i v d (omega arith) is

pub slot_open : (next : ℕ) (c : ConnectionView) → next ≢ 2 → slot_after next c ≡ Some c
slot_open next c other = cond-false _ _ _ (ne_eqb next 2 other)

-- ---- reports

-- one report more was read and heard
pub reads_on : (bytes rest after : List ℕ) (ts : List ReportView) (t : ReportView) → ReadsReports bytes ts rest → BeginsWith rest t
    → after ≡ take (length rest - (25 + length t.bytes)) (drop (25 + length t.bytes) rest) → ReadsReports bytes (ts ++ t ∷ []) after
reads_on bytes rest after ts t reads begins is =
    let front : length (report_bytes t) ≡ 25 + length t.bytes = omega arith in
    let same : after ≡ begins.more =
    is
    ∙ take_all (length rest - (25 + length t.bytes)) (drop (25 + length t.bytes) rest) (omega (arith, length-drop (25 + length t.bytes) rest))
    ∙ ap (drop (25 + length t.bytes)) begins.bytes_are
    ∙ subst (λ n. drop n (report_bytes t ++ begins.more) ≡ begins.more) front (drop-append_seam (report_bytes t) begins.more) in
    record {
      are = All-append IsReport ts (t ∷ []) reads.are (All-cons IsReport t [] begins.is (All-nil IsReport));
      bytes_are =
          reads.bytes_are
          ∙ ap (λ b. flat_map report_bytes ts ++ b) (begins.bytes_are ∙ ap (λ b. report_bytes t ++ b) (sym same))
          ∙ sym (append_assoc (flat_map report_bytes ts) (report_bytes t) after)
          ∙ ap (λ b. b ++ after) (ap (λ b. flat_map report_bytes ts ++ b) (sym (append-nil (report_bytes t))) ∙ sym (flat_map-append report_bytes ts (t ∷ [])));
    }

-- the same reports, said otherwise
pub reads_as : (bytes rest : List ℕ) (ts us : List ReportView) → us ≡ ts → ReadsReports bytes ts rest → ReadsReports bytes us rest
reads_as bytes rest ts us same reads = subst (λ (ts : List ReportView). ReadsReports bytes ts rest) (sym same) reads

-- reports that may take long, and then such as don't, and whether there are any of these
pub record IsRun (long short : List ReportView) (is_short : Bool) : Type 0 where
  pub are_long : All (λ t. IsTrue (may_take_long t)) long
  pub are_short : All (λ t. IsFalse (may_take_long t)) short
  pub none : IsFalse is_short → short ≡ []
  pub some : IsTrue is_short → short ≢ []

pub no_run : IsRun [] [] false
no_run = record {
  are_long = All-nil (λ t. IsTrue (may_take_long t));
  are_short = All-nil (λ t. IsFalse (may_take_long t));
  none = λ _. refl;
  some = λ (wrong : false ≡ true). cc;
}

-- and one report more
pub record RunsOn (long short : List ReportView) (t : ReportView) (is_short : Bool) : Type 0 where
  pub longs : List ReportView
  pub shorts : List ReportView
  pub are : longs ++ shorts ≡ (long ++ short) ++ t ∷ []
  pub run : IsRun longs shorts is_short

pub runs_on : (long short : List ReportView) (t : ReportView) (is_short is_long : Bool) → is_long ≡ may_take_long t
    → ((is_long ≡ true) × (is_short ≡ false)) ⊎ (is_long ≡ false) → IsRun long short is_short → RunsOn long short t (not is_long)
runs_on long short t is_short true is (inr other) run = absurd (let wrong : true ≡ false = other in cc)
runs_on long short t is_short true is (inl (_, others)) run = record {
  longs = long ++ t ∷ [];
  shorts = [];
  are = append-nil (long ++ t ∷ []) ∙ ap (λ (ts : List ReportView). ts ++ t ∷ []) (sym (ap (λ (ts : List ReportView). long ++ ts) (run.none others) ∙ append-nil long));
  run = record {
    are_long = All-append (λ t. IsTrue (may_take_long t)) long (t ∷ []) run.are_long
        (All-cons (λ t. IsTrue (may_take_long t)) t [] (sym is) (All-nil (λ t. IsTrue (may_take_long t))));
    are_short = All-nil (λ t. IsFalse (may_take_long t));
    none = λ _. refl;
    some = λ (wrong : false ≡ true). cc;
  };
}
runs_on long short t is_short false is others run = record {
  longs = long;
  shorts = short ++ t ∷ [];
  are = sym (append_assoc long short (t ∷ []));
  run = record {
    are_long = run.are_long;
    are_short = All-append (λ t. IsFalse (may_take_long t)) short (t ∷ []) run.are_short
        (All-cons (λ t. IsFalse (may_take_long t)) t [] (sym is) (All-nil (λ t. IsFalse (may_take_long t))));
    none = λ (wrong : true ≡ false). cc;
    some = λ _ e. omega (arith, ap length e, length-append short (t ∷ []));
  };
}

module _ {S : Type 0} (k : Keeping S) (config : TurnsConfig) where
  pub hears_on : (ts : List ReportView) (t : ReportView) (old mid new : Server S) (xs ys : List Order)
      → HeardAll k config ts old mid xs → Heard k config t mid new ys → HeardAll k config (ts ++ t ∷ []) old new (xs ++ ys)
  hears_on [] t old mid new xs ys was h = (
    new,
    ys,
    [],
    subst (λ (m : Server S). Heard k config t m new ys) was.0 h,
    (refl, refl),
    ap (λ (os : List Order). os ++ ys) was.1 ∙ sym (append-nil ys),
  )
  hears_on (s ∷ ts) t old mid new xs ys was h = (
    was.0,
    was.1,
    was.2 ++ ys,
    was.3,
    hears_on ts t was.0 mid new was.2 ys was.4 h,
    ap (λ (os : List Order). os ++ ys) was.5 ∙ append_assoc was.1 was.2 ys,
  )
