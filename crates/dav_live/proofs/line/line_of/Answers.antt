use Rattle.std.proofs.Common.{◌≡◌, ◌++◌, ◌∷◌, List, ℕ, [], refl, codes, ap, ◌∙◌, string_bytes}
use Rattle.std.proofs.lemmas.List.{append_assoc}
use Rattle.std.specs.Fmt.{decimal}
use Rattle.dav_live.specs.Line.{word_text}
use Rattle.dav_live.proofs.line.line_of.Goals as goal

-- texts that are added one after another, each but the first and the last with a space after it
added : (t0 t1 t2 t3 t4 t5 date address user method target status bytes : List ℕ)
    → t0 ≡ date ++ 32 ∷ [] → t1 ≡ t0 ++ (address ++ 32 ∷ []) → t2 ≡ t1 ++ (user ++ 32 ∷ []) → t3 ≡ t2 ++ (method ++ 32 ∷ [])
    → t4 ≡ t3 ++ (target ++ 32 ∷ []) → t5 ≡ t4 ++ (status ++ (32 ∷ [] ++ bytes))
    → t5 ≡ date ++ 32 ∷ [] ++ address ++ 32 ∷ [] ++ user ++ 32 ∷ [] ++ method ++ 32 ∷ [] ++ target ++ 32 ∷ [] ++ status ++ 32 ∷ [] ++ bytes
added t0 t1 t2 t3 t4 t5 date address user method target status bytes e0 e1 e2 e3 e4 e5 = rw (e5, e4, e3, e2, e1, e0) (simp append_assoc refl)

pub returns : goal.returns
returns c =
    let told = c.args.told.now in
    let end : string_bytes c.in_ok-end.end ≡ decimal told.status ++ (codes " " ++ decimal told.bytes) = c.in_ok-end.ensures.ok in
    let last : string_bytes c.push_str-2.new.self ≡ string_bytes c.push_word-4.new.line ++ (decimal told.status ++ (codes " " ++ decimal told.bytes)) =
    c.in_ok-push_str-2.ensures.bytes ∙ ap (λ (text : List ℕ). string_bytes c.push_word-4.new.line ++ text) (c.as_str.ensures.value ∙ end) in (
      string_bytes c.in_ok-line.line,
      added
          (string_bytes c.push_str.new.self) (string_bytes c.push_word.new.line) (string_bytes c.push_word-2.new.line)
          (string_bytes c.push_word-3.new.line) (string_bytes c.push_word-4.new.line) (string_bytes c.push_str-2.new.self)
          (string_bytes c.in_ok-line.line) (word_text told.address.now) (word_text told.user.now) (word_text told.method.now) (word_text told.target.now)
          (decimal told.status) (decimal told.bytes)
          c.in_ok-push_str.ensures.bytes c.in_ok-push_word.ensures c.in_ok-push_word-2.ensures c.in_ok-push_word-3.ensures
          c.in_ok-push_word-4.ensures last,
    )
