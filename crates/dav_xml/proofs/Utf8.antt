use Rattle.std.proofs.Common.{◌≡◌, ℕ, List, length, Bool, cond, Ok, Err, ap}
use Rattle.std.proofs.lemmas.Bool.{eq-eqb}
use Rattle.std.proofs.lemmas.Str.{utf8_valid_len-IsUtf8}
use Rattle.std.specs.Str.{IsUtf8}
use Rattle.std.specs.Str.Lossy.{utf8_valid_len}
use Rattle.dav_xml.specs.declared.error.Fault.TheVariants.{Malformed}
use Rattle.dav_xml.specs.References.{utf8}

pub utf8_ok : (bs : List ℕ) → IsUtf8 bs → utf8 bs ≡ Ok bs
utf8_ok bs h = ap (λ (b : Bool). cond b (Ok bs) (Err Malformed)) (eq-eqb (utf8_valid_len bs) (length bs) (utf8_valid_len-IsUtf8 bs h))
