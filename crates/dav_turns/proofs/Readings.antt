-- Bytes are read as reports in one way.
use Rattle.std.proofs.Common.{◌≡◌, ◌++◌, ◌<◌, ◌≤◌, ◌⊎◌, ◌+◌, ℕ, List, [], ◌∷◌, length, take, drop, get_or, length-append, append_assoc, refl, sym, ap, ◌∙◌, subst, arith, inl, inr}
use Rattle.std.proofs.Math.Seq.{drop-append_seam, take-append_seam}
use Rattle.std.proofs.lemmas.List.Elements.{All-head, All-tail}
use Rattle.std.proofs.lemmas.Nat.{from_le_bytes-to_le_bytes_4, from_le_bytes-to_le_bytes_8}
use Rattle.std.specs.Int.{w32, w64, from_le_bytes}
use Rattle.std.specs.List.{flat_map}
use Rattle.dav_turns.specs.Frames.{ReportView, IsHead, IsReport, BeginsWith, HasHead, IsPart, IsTooLong, ReadsReports, head_bytes, report_bytes}
use Rattle.dav_turns.specs.Turns.{IsLeft}
use Rattle.dav_turns.specs.Laws.{ReportsHaveOneReading}

-- what two readings of a head agree on
record SameHead (s k l m d : ℕ) (r : List ℕ) (s' k' l' m' d' : ℕ) (r' : List ℕ) : Type 0 where
  slot : s ≡ s'
  kind : k ≡ k'
  len : l ≡ l'
  seconds : m ≡ m'
  date : d ≡ d'
  rest : r ≡ r'

one_head : (s k l m d : ℕ) (r : List ℕ) (s' k' l' m' d' : ℕ) (r' : List ℕ) → IsHead s l m d → IsHead s' l' m' d'
    → head_bytes s k l m d ++ r ≡ head_bytes s' k' l' m' d' ++ r' → SameHead s k l m d r s' k' l' m' d' r'
one_head s k l m d r s' k' l' m' d' r' is is' e = record {
  slot = sym (from_le_bytes-to_le_bytes_4 s is.slot_fits) ∙ ap (λ b. from_le_bytes w32 (take 4 b)) e ∙ from_le_bytes-to_le_bytes_4 s' is'.slot_fits;
  kind = ap (λ b. get_or b 4 0) e;
  len = sym (from_le_bytes-to_le_bytes_4 l is.len_fits) ∙ ap (λ b. from_le_bytes w32 (take 4 (drop 5 b))) e ∙ from_le_bytes-to_le_bytes_4 l' is'.len_fits;
  seconds = sym (from_le_bytes-to_le_bytes_8 m is.seconds_fit) ∙ ap (λ b. from_le_bytes w64 (take 8 (drop 9 b))) e ∙ from_le_bytes-to_le_bytes_8 m' is'.seconds_fit;
  date = sym (from_le_bytes-to_le_bytes_8 d is.date_fits) ∙ ap (λ b. from_le_bytes w64 (take 8 (drop 17 b))) e ∙ from_le_bytes-to_le_bytes_8 d' is'.date_fits;
  rest = ap (drop 25) e;
}

-- a report begins with its head
front : (bytes : List ℕ) (t : ReportView) (x : BeginsWith bytes t)
    → bytes ≡ head_bytes t.slot t.kind (length t.bytes) t.seconds t.date ++ (t.bytes ++ x.more)
front bytes t x = x.bytes_are ∙ append_assoc (head_bytes t.slot t.kind (length t.bytes) t.seconds t.date) t.bytes x.more

long : (bytes : List ℕ) (t : ReportView) (x : BeginsWith bytes t) → 25 + length t.bytes ≤ length bytes
long bytes t x =
    omega (arith, ap length x.bytes_are, length-append (report_bytes t) x.more, length-append (head_bytes t.slot t.kind (length t.bytes) t.seconds t.date) t.bytes)

same_len : (bytes : List ℕ) (t : ReportView) (len : ℕ) (x : BeginsWith bytes t) → HasHead bytes len → len ≡ length t.bytes
same_len bytes t len x h =
    (one_head _ _ _ _ _ _ _ _ _ _ _ _ h.head x.is.head (sym h.bytes_are ∙ front bytes t x)).len

pub whole : (bytes : List ℕ) (t : ReportView) → BeginsWith bytes t → IsPart bytes → ⊥
whole bytes t x (inl short) = omega (arith, long bytes t x)
whole bytes t x (inr h) = omega (arith, long bytes t x, same_len bytes t h.0 x h.1, h.3)

pub few : (bytes : List ℕ) (t : ReportView) → BeginsWith bytes t → IsTooLong bytes → ⊥
few bytes t x h = omega (arith, x.is.few, same_len bytes t h.0 x h.1, h.2)

pub part : (bytes : List ℕ) → IsPart bytes → IsTooLong bytes → ⊥
part bytes (inl short) h =
    omega (arith, ap length h.1.bytes_are, length-append (head_bytes h.1.slot h.1.kind h.0 h.1.seconds h.1.date) h.1.rest)
part bytes (inr p) h =
    omega (arith, (one_head _ _ _ _ _ _ _ _ _ _ _ _ p.1.head h.1.head (sym p.1.bytes_are ∙ h.1.bytes_are)).len, p.2, h.2)

same_report : (t u : ReportView) → t.slot ≡ u.slot → t.kind ≡ u.kind → t.seconds ≡ u.seconds → t.date ≡ u.date → t.bytes ≡ u.bytes → t ≡ u
same_report t u a b c d e = λ i. record { slot = a i; kind = b i; seconds = c i; date = d i; bytes = e i }

-- two reports that begin the same bytes are one
one_report : (bytes : List ℕ) (t u : ReportView) (x : BeginsWith bytes t) (y : BeginsWith bytes u) → (t ≡ u) × (x.more ≡ y.more)
one_report bytes t u x y =
    let h = one_head _ _ _ _ _ _ _ _ _ _ _ _ x.is.head y.is.head (sym (front bytes t x) ∙ front bytes u y) in
    let seam : (n : ℕ) → length t.bytes ≡ n → take n (t.bytes ++ x.more) ≡ t.bytes =
    λ n e. subst (λ k. take k (t.bytes ++ x.more) ≡ t.bytes) e (take-append_seam t.bytes x.more) in
    let told : t.bytes ≡ u.bytes =
    sym (seam (length u.bytes) h.len) ∙ ap (take (length u.bytes)) h.rest ∙ take-append_seam u.bytes y.more in
    let rest : (n : ℕ) → length t.bytes ≡ n → drop n (t.bytes ++ x.more) ≡ x.more =
    λ n e. subst (λ k. drop k (t.bytes ++ x.more) ≡ x.more) e (drop-append_seam t.bytes x.more) in (
      same_report t u h.slot h.kind h.seconds h.date told,
      sym (rest (length u.bytes) h.len) ∙ ap (drop (length u.bytes)) h.rest ∙ drop-append_seam u.bytes y.more,
    )

-- the first of the reports that bytes are, and the others in what follows it
first : (bytes : List ℕ) (t : ReportView) (ts : List ReportView) (x : List ℕ) → ReadsReports bytes (t ∷ ts) x → BeginsWith bytes t
first bytes t ts x r = record {
  is = All-head IsReport t ts r.are;
  more = flat_map report_bytes ts ++ x;
  bytes_are = r.bytes_are ∙ append_assoc (report_bytes t) (flat_map report_bytes ts) x;
}

later : (t : ReportView) (ts : List ReportView) (x bytes : List ℕ) → ReadsReports bytes (t ∷ ts) x
    → ReadsReports (flat_map report_bytes ts ++ x) ts x
later t ts x bytes r = record { are = All-tail IsReport t ts r.are; bytes_are = refl }

pub one : (bytes : List ℕ) (ts us : List ReportView) (x y : List ℕ) → ReadsReports bytes ts x → ReadsReports bytes us y
    → IsPart x → IsPart y → (ts ≡ us) × (x ≡ y)
unfolding first
one bytes [] [] x y r q p o = (refl, sym r.bytes_are ∙ q.bytes_are)
one bytes [] (u ∷ us) x y r q p o = absurd (whole x u (subst (λ b. BeginsWith b u) r.bytes_are (first bytes u us y q)) p)
one bytes (t ∷ ts) [] x y r q p o = absurd (whole y t (subst (λ b. BeginsWith b t) q.bytes_are (first bytes t ts x r)) o)
one bytes (t ∷ ts) (u ∷ us) x y r q p o =
    let same = one_report bytes t u (first bytes t ts x r) (first bytes u us y q) in
    let others = one (flat_map report_bytes ts ++ x) ts us x y (later t ts x bytes r)
    (subst (λ b. ReadsReports b us y) (sym same.1) (later u us y bytes q)) p o in
    (cc (same.0, others.0), others.1)

-- where they begin with no whole report there is none
pub none_begun : (bytes : List ℕ) → IsPart bytes ⊎ IsTooLong bytes → (t : ReportView) → BeginsWith bytes t → ⊥
none_begun bytes (inl p) t x = whole bytes t x p
none_begun bytes (inr many) t x = few bytes t x many

-- bytes that begin with a report have more than what is left behind it
shorter : (bytes : List ℕ) (t : ReportView) (ts : List ReportView) (rest : List ℕ) → ReadsReports bytes (t ∷ ts) rest → length rest < length bytes
shorter bytes t ts rest r =
    omega (
      arith,
      ap length r.bytes_are,
      length-append (report_bytes t ++ flat_map report_bytes ts) rest,
      length-append (report_bytes t) (flat_map report_bytes ts),
      length-append (head_bytes t.slot t.kind (length t.bytes) t.seconds t.date) t.bytes,
    )

-- some report was heard, where the bytes begin with one
pub some_heard : (bytes : List ℕ) (t : ReportView) (used : ℕ) (long short : List ReportView) (rest : List ℕ) → BeginsWith bytes t
    → ReadsReports bytes (long ++ short) rest → IsLeft short rest → used + length rest ≡ length bytes → 0 < used
some_heard bytes t used [] [] rest x r (inl p) is = absurd (whole rest t (subst (λ b. BeginsWith b t) r.bytes_are x) p)
some_heard bytes t used [] [] rest x r (inr more) is = absurd (more.0 refl)
some_heard bytes t used [] (s ∷ short) rest x r left is = omega (arith, is, shorter bytes s short rest r)
some_heard bytes t used (l ∷ long) short rest x r left is = omega (arith, is, shorter bytes l (long ++ short) rest r)

pub one_reading : ReportsHaveOneReading
one_reading = record { one = one; whole = whole; few = few; part = part }
