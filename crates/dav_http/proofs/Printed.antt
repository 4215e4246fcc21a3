-- Texts of printable ASCII are legal.
use Rattle.std.proofs.Common.{◌≡◌, ℕ, zero, suc, ◌+◌, ◌/◌, ◌%◌, ◌<◌, Bool, true, false, cond, ◌==◌, nat_lt, List, [], ◌∷◌, ◌++◌, codes, bytes_eq, Option, Some, None, refl, arith}
use Rattle.std.proofs.lemmas.Bool.Decides.{nat_tests}
use Rattle.std.specs.Fmt.{digit_glyph, digits_onto, digits, decimal}
use Rattle.std.specs.Option.{unwrap_or}
use Rattle.http.specs.StatusCode.{reason_phrase}
use Rattle.percent_encoding.specs.Percent.{percent_encode_byte}
use Rattle.dav_core.specs.Path.{star, is_nonempty}
use Rattle.dav_core.specs.UrlText.{is_url_byte, url_text, path_text}
use Rattle.dav_presented.proofs.Printed.{IsPrinted, none_printed, printable, printed_append, printed_more, word}
use Rattle.dav_http.proofs.Each.{test_of}

-- ---- numbers

glyph : (upper : Bool) (d : ℕ) → d < 16 → printable (digit_glyph upper d) ≡ true
glyph true d lt = test_of (nat_lt d 10) (λ t. nat_lt d 10 ≡ t → printable (cond t (48 + d) (55 + d)) ≡ true) (λ e is. small d is) (λ e is. high d lt) refl
  where
    small : (d : ℕ) → nat_lt d 10 ≡ true → printable (48 + d) ≡ true
    small d e = grind (arith, nat_tests)

    high : (d : ℕ) → d < 16 → printable (55 + d) ≡ true
    high d lt = grind (arith, nat_tests)
glyph false d lt = test_of (nat_lt d 10) (λ t. nat_lt d 10 ≡ t → printable (cond t (48 + d) (87 + d)) ≡ true) (λ e is. small d is) (λ e is. high d lt) refl
  where
    small : (d : ℕ) → nat_lt d 10 ≡ true → printable (48 + d) ≡ true
    small d e = grind (arith, nat_tests)

    high : (d : ℕ) → d < 16 → printable (87 + d) ≡ true
    high d lt = grind (arith, nat_tests)

module _ (base : ℕ) (upper : Bool) (small : (n : ℕ) → n % base < 16) where
  onto : (k n : ℕ) (acc : List ℕ) → IsPrinted acc → IsPrinted (digits_onto k base upper n acc)
  onto zero n acc h = h
  onto (suc k) n acc h =
      let one = printed_more (digit_glyph upper (n % base)) acc (glyph upper (n % base) (small n)) h in
      test_of (n / base == 0) (λ t. IsPrinted (cond t (digit_glyph upper (n % base) ∷ acc) (digits_onto k base upper (n / base) (digit_glyph upper (n % base) ∷ acc)))) (λ e. one) (λ e. onto k (n / base) (digit_glyph upper (n % base) ∷ acc) one)

  pub digits_printed : (n : ℕ) → IsPrinted (digits base upper n)
  unfolding digits
  digits_printed n = onto 64 n [] none_printed

ten : (n : ℕ) → n % 10 < 16
ten n = omega arith

sixteen : (n : ℕ) → n % 16 < 16
sixteen n = omega arith

pub decimal_printed : (n : ℕ) → IsPrinted (decimal n)
decimal_printed n = digits_printed 10 false ten n

pub hex_printed : (upper : Bool) (n : ℕ) → IsPrinted (digits 16 upper n)
hex_printed upper n = digits_printed 16 upper sixteen n

-- ---- paths

kept_byte : (b : ℕ) → is_url_byte b ≡ true → printable b ≡ true
kept_byte b e = grind (arith, nat_tests)

byte_printed : (b : ℕ) → IsPrinted (cond (is_url_byte b) (b ∷ []) (percent_encode_byte b))
unfolding percent_encode_byte
byte_printed b = test_of (is_url_byte b) (λ t. IsPrinted (cond t (b ∷ []) (percent_encode_byte b))) (λ e. printed_more b [] (kept_byte b e) none_printed)
    (λ e. printed_more 37 _ refl (printed_more (digit_glyph true (b / 16 % 16)) _ (glyph true (b / 16 % 16) (sixteen (b / 16))) (printed_more (digit_glyph true (b % 16)) [] (glyph true (b % 16) (sixteen b)) none_printed)))

pub url_printed : (bytes : List ℕ) → IsPrinted (url_text bytes)
unfolding url_text
url_printed [] = none_printed
url_printed (b ∷ bs) = printed_append (cond (is_url_byte b) (b ∷ []) (percent_encode_byte b)) (url_text bs) (byte_printed b) (url_printed bs)

byte_some : (b : ℕ) (bs : List ℕ) → is_nonempty (cond (is_url_byte b) (b ∷ []) (percent_encode_byte b) ++ bs) ≡ true
unfolding percent_encode_byte
byte_some b bs = test_of (is_url_byte b) (λ t. is_nonempty (cond t (b ∷ []) (percent_encode_byte b) ++ bs) ≡ true) (λ e. refl) (λ e. refl)

url_some : (bytes : List ℕ) → is_nonempty bytes ≡ true → is_nonempty (url_text bytes) ≡ true
unfolding url_text
url_some [] e = e
url_some (b ∷ bs) e = byte_some b (url_text bs)

pub path_printed : (bytes : List ℕ) → IsPrinted (path_text bytes)
path_printed bytes = test_of (bytes_eq bytes star) (λ t. IsPrinted (cond t star (url_text bytes))) (λ e. record { all = refl }) (λ e. url_printed bytes)

pub path_some : (bytes : List ℕ) → is_nonempty bytes ≡ true → is_nonempty (path_text bytes) ≡ true
path_some bytes some = test_of (bytes_eq bytes star) (λ t. is_nonempty (cond t star (url_text bytes)) ≡ true) (λ e. refl) (λ e. url_some bytes some)

-- ---- statuses

record IsReason (o : Option (List ℕ)) : Type 0 where
  printed : IsPrinted (unwrap_or o [])

phrase : (t : Bool) (x : List ℕ) (o : Option (List ℕ)) → IsPrinted x → IsReason o → IsReason (cond t (Some x) o)
phrase true x o h k = record { printed = h }
phrase false x o h k = k

no_phrase : IsReason None
no_phrase = record { printed = none_printed }

reasons : (n : ℕ) → IsReason (reason_phrase n)
reasons n =
    phrase (n == 100) (codes "Continue") _ (word (codes "Continue") refl) (
    phrase (n == 101) (codes "Switching Protocols") _ (word (codes "Switching Protocols") refl) (
    phrase (n == 102) (codes "Processing") _ (word (codes "Processing") refl) (
    phrase (n == 103) (codes "Early Hints") _ (word (codes "Early Hints") refl) (
    phrase (n == 200) (codes "OK") _ (word (codes "OK") refl) (
    phrase (n == 201) (codes "Created") _ (word (codes "Created") refl) (
    phrase (n == 202) (codes "Accepted") _ (word (codes "Accepted") refl) (
    phrase (n == 203) (codes "Non Authoritative Information") _ (word (codes "Non Authoritative Information") refl) (
    phrase (n == 204) (codes "No Content") _ (word (codes "No Content") refl) (
    phrase (n == 205) (codes "Reset Content") _ (word (codes "Reset Content") refl) (
    phrase (n == 206) (codes "Partial Content") _ (word (codes "Partial Content") refl) (
    phrase (n == 207) (codes "Multi-Status") _ (word (codes "Multi-Status") refl) (
    phrase (n == 208) (codes "Already Reported") _ (word (codes "Already Reported") refl) (
    phrase (n == 226) (codes "IM Used") _ (word (codes "IM Used") refl) (
    phrase (n == 300) (codes "Multiple Choices") _ (word (codes "Multiple Choices") refl) (
    phrase (n == 301) (codes "Moved Permanently") _ (word (codes "Moved Permanently") refl) (
    phrase (n == 302) (codes "Found") _ (word (codes "Found") refl) (
    phrase (n == 303) (codes "See Other") _ (word (codes "See Other") refl) (
    phrase (n == 304) (codes "Not Modified") _ (word (codes "Not Modified") refl) (
    phrase (n == 305) (codes "Use Proxy") _ (word (codes "Use Proxy") refl) (
    phrase (n == 307) (codes "Temporary Redirect") _ (word (codes "Temporary Redirect") refl) (
    phrase (n == 308) (codes "Permanent Redirect") _ (word (codes "Permanent Redirect") refl) (
    phrase (n == 400) (codes "Bad Request") _ (word (codes "Bad Request") refl) (
    phrase (n == 401) (codes "Unauthorized") _ (word (codes "Unauthorized") refl) (
    phrase (n == 402) (codes "Payment Required") _ (word (codes "Payment Required") refl) (
    phrase (n == 403) (codes "Forbidden") _ (word (codes "Forbidden") refl) (
    phrase (n == 404) (codes "Not Found") _ (word (codes "Not Found") refl) (
    phrase (n == 405) (codes "Method Not Allowed") _ (word (codes "Method Not Allowed") refl) (
    phrase (n == 406) (codes "Not Acceptable") _ (word (codes "Not Acceptable") refl) (
    phrase (n == 407) (codes "Proxy Authentication Required") _ (word (codes "Proxy Authentication Required") refl) (
    phrase (n == 408) (codes "Request Timeout") _ (word (codes "Request Timeout") refl) (
    phrase (n == 409) (codes "Conflict") _ (word (codes "Conflict") refl) (
    phrase (n == 410) (codes "Gone") _ (word (codes "Gone") refl) (
    phrase (n == 411) (codes "Length Required") _ (word (codes "Length Required") refl) (
    phrase (n == 412) (codes "Precondition Failed") _ (word (codes "Precondition Failed") refl) (
    phrase (n == 413) (codes "Payload Too Large") _ (word (codes "Payload Too Large") refl) (
    phrase (n == 414) (codes "URI Too Long") _ (word (codes "URI Too Long") refl) (
    phrase (n == 415) (codes "Unsupported Media Type") _ (word (codes "Unsupported Media Type") refl) (
    phrase (n == 416) (codes "Range Not Satisfiable") _ (word (codes "Range Not Satisfiable") refl) (
    phrase (n == 417) (codes "Expectation Failed") _ (word (codes "Expectation Failed") refl) (
    phrase (n == 418) (codes "I'm a teapot") _ (word (codes "I'm a teapot") refl) (
    phrase (n == 421) (codes "Misdirected Request") _ (word (codes "Misdirected Request") refl) (
    phrase (n == 422) (codes "Unprocessable Entity") _ (word (codes "Unprocessable Entity") refl) (
    phrase (n == 423) (codes "Locked") _ (word (codes "Locked") refl) (
    phrase (n == 424) (codes "Failed Dependency") _ (word (codes "Failed Dependency") refl) (
    phrase (n == 425) (codes "Too Early") _ (word (codes "Too Early") refl) (
    phrase (n == 426) (codes "Upgrade Required") _ (word (codes "Upgrade Required") refl) (
    phrase (n == 428) (codes "Precondition Required") _ (word (codes "Precondition Required") refl) (
    phrase (n == 429) (codes "Too Many Requests") _ (word (codes "Too Many Requests") refl) (
    phrase (n == 431) (codes "Request Header Fields Too Large") _ (word (codes "Request Header Fields Too Large") refl) (
    phrase (n == 451) (codes "Unavailable For Legal Reasons") _ (word (codes "Unavailable For Legal Reasons") refl) (
    phrase (n == 500) (codes "Internal Server Error") _ (word (codes "Internal Server Error") refl) (
    phrase (n == 501) (codes "Not Implemented") _ (word (codes "Not Implemented") refl) (
    phrase (n == 502) (codes "Bad Gateway") _ (word (codes "Bad Gateway") refl) (
    phrase (n == 503) (codes "Service Unavailable") _ (word (codes "Service Unavailable") refl) (
    phrase (n == 504) (codes "Gateway Timeout") _ (word (codes "Gateway Timeout") refl) (
    phrase (n == 505) (codes "HTTP Version Not Supported") _ (word (codes "HTTP Version Not Supported") refl) (
    phrase (n == 506) (codes "Variant Also Negotiates") _ (word (codes "Variant Also Negotiates") refl) (
    phrase (n == 507) (codes "Insufficient Storage") _ (word (codes "Insufficient Storage") refl) (
    phrase (n == 508) (codes "Loop Detected") _ (word (codes "Loop Detected") refl) (
    phrase (n == 510) (codes "Not Extended") _ (word (codes "Not Extended") refl) (
    phrase (n == 511) (codes "Network Authentication Required") _ (word (codes "Network Authentication Required") refl) (
    no_phrase))))))))))))))))))))))))))))))))))))))))))))))))))))))))))))))

pub reason_printed : (n : ℕ) → IsPrinted (unwrap_or (reason_phrase n) [])
reason_printed n = (reasons n).printed
