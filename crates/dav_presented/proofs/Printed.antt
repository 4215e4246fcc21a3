-- Texts of printable ASCII are legal; dates are such texts.
use Rattle.std.proofs.Common.{◌≡◌, ℕ, zero, suc, ◌+◌, ◌*◌, ◌-◌, ◌/◌, ◌%◌, ◌<◌, ◌≤◌, Bool, true, false, cond, ◌&&◌, ◌||◌, ◌==◌, nat_le, List, [], ◌∷◌, ◌++◌, codes, Option, Some, None, refl, ◌∙◌, arith, slice_index_or}
use Rattle.std.proofs.lemmas.Bool.{and_from}
use Rattle.std.proofs.lemmas.Bool.Decides.{nat_tests}
use Rattle.std.proofs.lemmas.List.Folds.{list_all-append}
use Rattle.std.specs.List.{list_all, AllByRecursion}
use Rattle.std.specs.Option.{option_and_then}
use Rattle.httpdate.specs.Text.{day_name, month_name, two_digits, four_digits, time_of_day, imf_fixdate}
use Rattle.httpdate.specs.Valid.{IsValid, is_valid, parts_secs}
use Rattle.httpdate.specs.Calendar.{is_leap_year, days_in_month}
use Rattle.httpdate.specs.Date.{parse_secs, valid_secs}
use Rattle.httpdate.specs.Reader.{parse}
use Rattle.httpdate.specs.declared.parts.Parts.{Parts}
use Rattle.httpdate.proofs.CalendarLemmas.{days_from_civil_bound}
use Rattle.httpdate.proofs.ValidLemmas.{is_valid_sound}
use Rattle.dav_core.specs.World.{last_moment}
use Rattle.dav_engine.specs.Date.{date_of, date_text_of}
use Rattle.dav_engine.proofs.DateLemmas.{dates_of_moments}
use Rattle.dav_xml.specs.Legal.{IsLegal}
use Rattle.dav_xml.proofs.Escapes.{by_test}
use Rattle.dav_xml.proofs.LegalTrees.{legal_word}

abbrev pub printable : ℕ → Bool
printable b = nat_le 32 b && nat_le b 126

pub record IsPrinted (bytes : List ℕ) : Type 0 where
  pub all : list_all (λ b. nat_le 32 b && nat_le b 126) bytes ≡ true

pub printed_legal : (bytes : List ℕ) → IsPrinted bytes → IsLegal bytes
printed_legal bytes h = legal_word bytes h.all

pub none_printed : IsPrinted []
none_printed = record { all = refl }

pub printed_append : (xs ys : List ℕ) → IsPrinted xs → IsPrinted ys → IsPrinted (xs ++ ys)
printed_append xs ys h k = record { all = list_all-append printable xs ys ∙ and_from (list_all printable xs) (list_all printable ys) h.all k.all }

pub printed_more : (b : ℕ) (bs : List ℕ) → printable b ≡ true → IsPrinted bs → IsPrinted (b ∷ bs)
printed_more b bs e h = record { all = and_from (printable b) (list_all printable bs) e h.all }

-- ---- dates

-- what an index finds, or what stands in its place
each_index : {X : Type 0} (P : X → Type 0) (xs : List X) (i : ℕ) (d : X) → P d → AllByRecursion P xs → P (slice_index_or xs i d)
each_index P [] i d h k = h
each_index P (x ∷ xs) zero d h k = k.0
each_index P (x ∷ xs) (suc i) d h k = each_index P xs i d h k.1

decimal_byte : (d : ℕ) → d < 10 → printable (48 + d) ≡ true
decimal_byte d lt = grind (arith, nat_tests)

pub two_printed : (n : ℕ) → n < 100 → IsPrinted (two_digits n)
two_printed n lt = printed_more (48 + n / 10) _ (decimal_byte (n / 10) (omega (arith, lt))) (printed_more (48 + n % 10) [] (decimal_byte (n % 10) (omega arith)) none_printed)

pub four_printed : (n : ℕ) → n < 10000 → IsPrinted (four_digits n)
four_printed n lt = printed_append (two_digits (n / 100)) (two_digits (n % 100)) (two_printed (n / 100) (omega (arith, lt))) (two_printed (n % 100) (omega arith))

pub word : (bytes : List ℕ) → list_all (λ b. nat_le 32 b && nat_le b 126) bytes ≡ true → IsPrinted bytes
word bytes e = record { all = e }

day_printed : (wday : ℕ) → IsPrinted (day_name wday)
day_printed wday =
    let all : AllByRecursion IsPrinted (codes "Mon" ∷ codes "Tue" ∷ codes "Wed" ∷ codes "Thu" ∷ codes "Fri" ∷ codes "Sat" ∷ codes "Sun" ∷ []) = ((word (codes "Mon") refl, (word (codes "Tue") refl, (word (codes "Wed") refl, (word (codes "Thu") refl, (word (codes "Fri") refl, (word (codes "Sat") refl, (word (codes "Sun") refl, tt)))))))) in
    each_index IsPrinted (codes "Mon" ∷ codes "Tue" ∷ codes "Wed" ∷ codes "Thu" ∷ codes "Fri" ∷ codes "Sat" ∷ codes "Sun" ∷ []) (wday - 1) [] none_printed all

month_printed : (mon : ℕ) → IsPrinted (month_name mon)
month_printed mon =
    let all : AllByRecursion IsPrinted (codes "Jan" ∷ codes "Feb" ∷ codes "Mar" ∷ codes "Apr" ∷ codes "May" ∷ codes "Jun" ∷ codes "Jul" ∷ codes "Aug" ∷ codes "Sep" ∷ codes "Oct" ∷ codes "Nov" ∷ codes "Dec" ∷ []) = ((word (codes "Jan") refl, (word (codes "Feb") refl, (word (codes "Mar") refl, (word (codes "Apr") refl, (word (codes "May") refl, (word (codes "Jun") refl, (word (codes "Jul") refl, (word (codes "Aug") refl, (word (codes "Sep") refl, (word (codes "Oct") refl, (word (codes "Nov") refl, (word (codes "Dec") refl, tt))))))))))))) in
    each_index IsPrinted (codes "Jan" ∷ codes "Feb" ∷ codes "Mar" ∷ codes "Apr" ∷ codes "May" ∷ codes "Jun" ∷ codes "Jul" ∷ codes "Aug" ∷ codes "Sep" ∷ codes "Oct" ∷ codes "Nov" ∷ codes "Dec" ∷ []) (mon - 1) [] none_printed all

join : {xs ys : List ℕ} → IsPrinted xs → IsPrinted ys → IsPrinted (xs ++ ys)
join {xs} {ys} h k = printed_append xs ys h k

-- a date of the calendar
record IsShown (p : Parts) : Type 0 where
  year : p.year < 10000
  month : p.mon < 100
  day : p.day < 100
  hour : p.hour < 100
  min : p.min < 100
  sec : p.sec < 100

shortest : (y m : ℕ) → days_in_month y m ≤ 31
shortest y m = by_test (m == 2) (λ t. cond t (cond (is_leap_year y) 29 28) (cond (((m == 4) || (m == 6)) || (m == 9) || (m == 11)) 30 31) ≤ 31)
    (λ e. by_test (is_leap_year y) (λ t. cond t 29 28 ≤ 31) (λ f. omega arith) (λ f. omega arith)) (λ e. by_test (((m == 4) || (m == 6)) || (m == 9) || (m == 11)) (λ t. cond t 30 31 ≤ 31) (λ f. omega arith) (λ f. omega arith))

valid_shown : (p : Parts) → IsValid p → IsShown p
valid_shown p h =
    let y = h.0.0.1 in
    let m = h.0.1.1 in
    let d = h.0.2.1 in
    let most = shortest p.year p.mon in
    let hour = h.1.0 in
    let min = h.1.1 in
    let sec = h.1.2 in
    record { year = omega (arith, y); month = omega (arith, m); day = omega (arith, d, most); hour = omega (arith, hour); min = omega (arith, min); sec = omega (arith, sec) }

time_printed : (p : Parts) → IsShown p → IsPrinted (time_of_day p)
time_printed p h = join (join (join (join (two_printed p.hour h.hour) (word (codes ":") refl)) (two_printed p.min h.min)) (word (codes ":") refl)) (two_printed p.sec h.sec)

pub date_printed : (p : Parts) → IsValid p → IsPrinted (imf_fixdate p)
date_printed p v =
    let h = valid_shown p v in
    join (join (join (join (join (join (join (join (join (day_printed p.wday) (word (codes ", ") refl)) (two_printed p.day h.day)) (word (codes " ") refl)) (month_printed p.mon)) (word (codes " ") refl)) (four_printed p.year h.year)) (word (codes " ") refl)) (time_printed p h)) (word (codes " GMT") refl)

pub internet_printed : (d : Parts) → IsValid d → IsPrinted (four_digits d.year ++ 45 ∷ (two_digits d.mon ++ 45 ∷ (two_digits d.day ++ 84 ∷ (time_of_day d ++ 90 ∷ []))))
internet_printed d v =
    let h = valid_shown d v in
    join (four_printed d.year h.year) (printed_more 45 _ refl (join (two_printed d.mon h.month) (printed_more 45 _ refl (join (two_printed d.day h.day) (printed_more 84 _ refl (join (time_printed d h) (printed_more 90 [] refl none_printed)))))))

-- a date that is read is of the year 9999 or before
secs_if : (p : Parts) (t : Bool) (secs : ℕ) → is_valid p ≡ t → cond t (Some (parts_secs p)) None ≡ Some secs → secs ≤ last_moment
secs_if p true secs is e =
    let valid = is_valid_sound p is in
    let days = days_from_civil_bound p.year p.mon p.day valid.0 in
    let hour = valid.1.0 in
    let min = valid.1.1 in
    let sec = valid.1.2 in
    let same : parts_secs p ≡ secs = cc in
    omega (arith, days, hour, min, sec, same)
secs_if p false secs is e = absurd cc

parsed_if : (o : Option Parts) (secs : ℕ) → option_and_then valid_secs o ≡ Some secs → secs ≤ last_moment
parsed_if None secs e = absurd cc
parsed_if (Some p) secs e = secs_if p (is_valid p) secs refl e

pub date_read : (text : List ℕ) (secs : ℕ) → parse_secs text ≡ Some secs → secs ≤ last_moment
date_read text secs e = parsed_if (parse text) secs e

-- the date of a moment
pub written_date : (moment : ℕ) → moment ≤ last_moment → IsPrinted (date_text_of moment)
written_date moment le = date_printed (date_of moment) (dates_of_moments moment le).0
