-- What passes between the front and this program. Numbers are little-endian.
use Rattle.std.specs.Prelude.{◌≡◌, ◌<◌, ◌≤◌, ◌^◌, ◌+◌, ◌⊎◌, ℕ, List, [], ◌∷◌, ◌++◌, All, length}
use Rattle.std.specs.Int.{w32, w64, to_le_bytes}
use Rattle.std.specs.List.{flat_map}
use Rattle.dav_turns.specs.declared.frames.Next.{Next}
use Rattle.dav_turns.specs.declared.frames.Next.TheVariants.{Whole, Part, Wrong}
use Rattle.dav_turns.specs.declared.frames.Report.{Report}
use Rattle.dav_turns.specs.declared.frames.TheConstants.{HEAD, MOST}

-- an order to the front: the slot of a connection, the bytes to send on it, and what to do when
-- they are sent
pub record Order : Type 0 where
  pub slot : ℕ
  pub next : ℕ
  pub bytes : List ℕ

-- its bytes: slot, what to do next, how many bytes to send, and these
abbrev pub order_bytes : Order → List ℕ
order_bytes o = to_le_bytes w32 o.slot ++ o.next ∷ [] ++ to_le_bytes w32 (length o.bytes) ++ o.bytes

-- a report of the front: the slot of a connection, what happened there, when, in the seconds of a
-- clock that goes on steadily and is never set, and in seconds since 1970 by the date, and the bytes
-- that came
pub record ReportView : Type 0 where
  pub slot : ℕ
  pub kind : ℕ
  pub seconds : ℕ
  pub date : ℕ
  pub bytes : List ℕ

-- the head of a report: slot, kind, how many bytes follow, and both clocks
abbrev pub head_bytes : ℕ → ℕ → ℕ → ℕ → ℕ → List ℕ
head_bytes slot kind len seconds date =
    to_le_bytes w32 slot ++ kind ∷ [] ++ to_le_bytes w32 len
    ++ to_le_bytes w64 seconds ++ to_le_bytes w64 date

-- what the front writes for a report
abbrev pub report_bytes : ReportView → List ℕ
report_bytes t = head_bytes t.slot t.kind (length t.bytes) t.seconds t.date ++ t.bytes

-- numbers that a head can hold
pub record IsHead (slot len seconds date : ℕ) : Type 0 where
  pub slot_fits : slot < 2 ^ 32
  pub len_fits : len < 2 ^ 32
  pub seconds_fit : seconds < 2 ^ 64
  pub date_fits : date < 2 ^ 64

-- what a report can be: it has at most 65,536 bytes
pub record IsReport (t : ReportView) : Type 0 where
  pub head : IsHead t.slot (length t.bytes) t.seconds t.date
  pub few : length t.bytes ≤ MOST

-- the bytes begin with this report
pub record BeginsWith (bytes : List ℕ) (t : ReportView) : Type 0 where
  pub is : IsReport t
  pub more : List ℕ
  pub bytes_are : bytes ≡ report_bytes t ++ more

-- the bytes begin with a head that tells of so many bytes
pub record HasHead (bytes : List ℕ) (len : ℕ) : Type 0 where
  pub slot : ℕ
  pub kind : ℕ
  pub seconds : ℕ
  pub date : ℕ
  pub head : IsHead slot len seconds date
  pub rest : List ℕ
  pub bytes_are : bytes ≡ head_bytes slot kind len seconds date ++ rest

-- the bytes are only the beginning of a report, or none: more have to come
abbrev pub IsPart : List ℕ → Type 0
IsPart bytes =
    (length bytes < HEAD)
    ⊎ ((len : ℕ) × HasHead bytes len × (len ≤ MOST) × (length bytes < HEAD + len))

-- the bytes begin with the head of what has too many bytes for a report
abbrev pub IsTooLong : List ℕ → Type 0
IsTooLong bytes = (len : ℕ) × HasHead bytes len × (MOST < len)

-- a report that was read, as specifications see it
abbrev pub report_view : Report → ReportView
report_view r =
    record { slot = r.slot; kind = r.kind; seconds = r.seconds; date = r.date; bytes = r.bytes.now }

-- what the bytes begin with
abbrev pub Begins : List ℕ → Next → Type 0
Begins bytes (Whole report) = BeginsWith bytes (report_view report)
Begins bytes Part = IsPart bytes
Begins bytes Wrong = IsTooLong bytes

-- the bytes are these reports, one after another, and then the rest
pub record ReadsReports (bytes : List ℕ) (reports : List ReportView) (rest : List ℕ) : Type 0 where
  pub are : All IsReport reports
  pub bytes_are : bytes ≡ flat_map report_bytes reports ++ rest
