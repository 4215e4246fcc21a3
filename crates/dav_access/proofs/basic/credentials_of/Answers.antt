use Rattle.std.proofs.Common.{◌≡◌, ◌≢◌, ℕ, List, rules, sym, ◌∙◌, subst}
use Rattle.std.specs.Str.{IsUtf8}
use Rattle.base64.specs.Engines.{standard}
use Rattle.base64.specs.GeneralPurpose.{IsBytes, encode_of}
use Rattle.dav_access.specs.Basic.{HasCode}
use Rattle.dav_access.specs.Texts.{IsSplit}
use Rattle.dav_access.proofs.BasicLemmas.{code_once}
use Rattle.dav_access.proofs.SecretLemmas.{same_split}
use Rattle.dav_access.proofs.basic.credentials_of.Goals as goal

pub returns-in_default : goal.returns-in_default
returns-in_default c name password is =
    let none : (code : List ℕ) → ¬ HasCode c.args.value.now code = search rules in none is.code is.has

pub returns-in_default-2 : goal.returns-in_default-2
returns-in_default-2 c name password is =
    let code : is.code ≡ c.in-Some.code.now = code_once c.args.value.now is.code c.in-Some.code.now is.has c.in-Some.ensures in
    let none : (text : List ℕ) → IsBytes text → c.in-Some.code.now ≢ encode_of standard text = search rules in
    none is.text is.bytes (sym code ∙ is.encoded)

pub returns-in_default-from_utf8 : goal.returns-in_default-from_utf8
returns-in_default-from_utf8 c name password is =
    let code : is.code ≡ c.in-Some.code.now = code_once c.args.value.now is.code c.in-Some.code.now is.has c.in-Some.ensures in
    let only : (text : List ℕ) → IsBytes text → c.in-Some.code.now ≡ encode_of standard text → text ≡ c.in-Some-2.bytes.items = search rules in
    let text : is.text ≡ c.deref.result.now = only is.text is.bytes (sym code ∙ is.encoded) ∙ sym c.deref.ensures.value in
    c.in_default-from_utf8.ensures.cases.0 (subst IsUtf8 text is.utf8)

pub returns-in_default-split_at_first : goal.returns-in_default-split_at_first
returns-in_default-split_at_first c name password is =
    let code : is.code ≡ c.in-Some.code.now = code_once c.args.value.now is.code c.in-Some.code.now is.has c.in-Some.ensures in
    let only : (text : List ℕ) → IsBytes text → c.in-Some.code.now ≡ encode_of standard text → text ≡ c.in-Some-2.bytes.items = search rules in
    let text : is.text ≡ c.in-Ok.text.now =
    only is.text is.bytes (sym code ∙ is.encoded) ∙ sym c.deref.ensures.value ∙ sym c.in-Ok.ensures.cases.0 in
    let none : (before after : List ℕ) → ¬ IsSplit 58 c.in-Ok.text.now before after = search rules in
    none name password (same_split text is.parts)
