use Rattle.std.proofs.Common.{◌≡◌, All, map, take}
use Rattle.std.specs.Str.{IsUtf8}
use Rattle.dav_access.proofs.line.texts_of.Given as goal

abbrev pub invariant-loop-word : goal.invariant-loop-word
invariant-loop-word l =
    (map (λ t. t.now) l.texts.items ≡ take l.word-index (map (λ w. w.now) l.words)) × All IsUtf8 (take l.word-index (map (λ w. w.now) l.words))
