-- The value of a field has one code.
use Rattle.std.proofs.Common.{◌≡◌, ◌≢◌, ℕ, zero, suc, ◌+◌, ◌≤◌, List, [], ◌∷◌, ◌++◌, codes, length, take, drop, map, replicate, sym, ap, ◌∙◌, append_assoc, add-one, Ok, arith, rules}
use Rattle.std.proofs.Math.Seq.{take-append_seam, drop-append_seam}
use Rattle.std.proofs.lemmas.List.{length-append, length-map, replicate-append-replicate, take-append-drop}
use Rattle.std.specs.Char.{to_ascii_lowercase}
use Rattle.std.specs.declared.result.Result.{Result}
use Rattle.base64.proofs.EngineFacts.{decode_of-encode_of}
use Rattle.base64.specs.Engines.{standard}
use Rattle.base64.specs.GeneralPurpose.{decode_of, encode_of}
use Rattle.base64.specs.declared.decode.DecodeError.{DecodeError}
use Rattle.dav_access.specs.Basic.{HasCode, IsBasic}
use Rattle.dav_access.proofs.SecretLemmas.{back_once, front_once, same_split}

-- ---- spaces

-- one space more
pub space_more : (count : ℕ) (bytes rest after : List ℕ) → bytes ≡ replicate count 32 ++ rest → rest ≡ 32 ∷ after
    → bytes ≡ replicate (count + 1) 32 ++ after
space_more count bytes rest after so_far is =
    so_far ∙ ap (λ xs. replicate count 32 ++ xs) is ∙ sym (append_assoc (replicate count 32) (32 ∷ []) after)
    ∙ ap (λ xs. xs ++ after) (replicate-append-replicate count 1 32)

-- the spaces and the first of them
pub all_spaces : (count : ℕ) (after rest : List ℕ) → after ≡ replicate count 32 ++ rest → 32 ∷ after ≡ replicate (count + 1) 32 ++ rest
all_spaces count after rest is = rw (add-one count) (ap (λ xs. 32 ∷ xs) is)

-- what follows the spaces is one text
spaces_once : (m n : ℕ) (a b : List ℕ) → ((rest : List ℕ) → a ≢ 32 ∷ rest) → ((rest : List ℕ) → b ≢ 32 ∷ rest)
    → replicate m 32 ++ a ≡ replicate n 32 ++ b → a ≡ b
spaces_once zero zero a b p q e = e
spaces_once zero (suc n) a b p q e = absurd (p (replicate n 32 ++ b) e)
spaces_once (suc m) zero a b p q e = absurd (q (replicate m 32 ++ a) (sym e))
spaces_once (suc m) (suc n) a b p q e =
    let tails : replicate m 32 ++ a ≡ replicate n 32 ++ b = cc in
    spaces_once m n a b p q tails

-- ---- the scheme

five : (value code : List ℕ) → (h : HasCode value code) → length h.scheme ≡ 5
five value code h = sym (length-map h.scheme to_ascii_lowercase) ∙ ap length h.basic

-- the scheme is the first five bytes
pub scheme_is : (value code : List ℕ) → (h : HasCode value code) → take 5 value ≡ h.scheme
scheme_is value code h =
    ap (take 5) h.written ∙ ap (λ n. take n (h.scheme ++ (replicate (h.spaces + 1) 32 ++ code))) (sym (five value code h))
    ∙ take-append_seam h.scheme (replicate (h.spaces + 1) 32 ++ code)

-- what follows it begins with a space
pub after_is : (value code : List ℕ) → (h : HasCode value code) → drop 5 value ≡ 32 ∷ (replicate h.spaces 32 ++ code)
after_is value code h =
    ap (drop 5) h.written ∙ ap (λ n. drop n (h.scheme ++ (replicate (h.spaces + 1) 32 ++ code))) (sym (five value code h))
    ∙ drop-append_seam h.scheme (replicate (h.spaces + 1) 32 ++ code) ∙ ap (λ n. replicate n 32 ++ code) (add-one h.spaces)

-- a shorter value has no code
pub code_is_long : (value code : List ℕ) → HasCode value code → 5 ≤ length value
code_is_long value code h =
    let len = ap length h.written ∙ length-append h.scheme (replicate (h.spaces + 1) 32 ++ code) in
    let scheme = five value code h in
    omega arith

-- a value that begins with the scheme in letters of either case, and a space, has the code that follows the spaces
pub has_code : (value scheme after rest code : List ℕ) (count : ℕ) → scheme ≡ take 5 value → after ≡ drop 5 value
    → map to_ascii_lowercase scheme ≡ codes "basic" → after ≡ 32 ∷ rest → rest ≡ replicate count 32 ++ code
    → ((more : List ℕ) → code ≢ 32 ∷ more) → HasCode value code
has_code value scheme after rest code count front back basic space spaces bare =
    let parts : value ≡ scheme ++ after = sym (take-append-drop 5 value) ∙ ap (λ xs. xs ++ drop 5 value) (sym front) ∙ ap (λ xs. scheme ++ xs) (sym back) in
    record {
      scheme = scheme;
      spaces = count;
      written = parts ∙ ap (λ xs. scheme ++ xs) (space ∙ all_spaces count rest code spaces);
      basic = basic;
      bare = bare;
    }

-- a value has one code
pub code_once : (value a b : List ℕ) → HasCode value a → HasCode value b → a ≡ b
code_once value a b h k =
    let same : 32 ∷ (replicate h.spaces 32 ++ a) ≡ 32 ∷ (replicate k.spaces 32 ++ b) = sym (after_is value a h) ∙ after_is value b k in
    let tails : replicate h.spaces 32 ++ a ≡ replicate k.spaces 32 ++ b = cc in
    spaces_once h.spaces k.spaces a b h.bare k.bare tails

-- a value reads as the credentials of one name and password
pub basic_once : (value name password other_name other_password : List ℕ) → IsBasic value name password → IsBasic value other_name other_password
    → (name ≡ other_name) × (password ≡ other_password)
basic_once value name password other_name other_password a b =
    let code : a.code ≡ b.code = code_once value a.code b.code a.has b.has in
    let both : encode_of standard a.text ≡ encode_of standard b.text = sym a.encoded ∙ code ∙ b.encoded in
    let first = decode_of-encode_of standard a.text (search rules) a.bytes in
    let second = decode_of-encode_of standard b.text (search rules) b.bytes in
    let x : Result (List ℕ) DecodeError = Ok a.text in
    let y : Result (List ℕ) DecodeError = Ok b.text in
    let oks : x ≡ y = sym first ∙ ap (λ t. decode_of standard t) both ∙ second in
    let text : b.text ≡ a.text = cc in
    let split = same_split text b.parts in
    (front_once a.parts split, back_once a.parts split)
