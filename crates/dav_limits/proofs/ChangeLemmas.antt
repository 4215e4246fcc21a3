-- How much is at a path and below it after a request: what it may not change is as much as before.
use Rattle.std.proofs.Common.{◌≡◌, ◌&&◌, ◌+◌, ℕ, Bool, true, false, not, T, min, length, option_map, sym, ap, ◌∙◌, arith}
use Rattle.std.specs.FinMap.{find, is_sorted}
use Rattle.std.specs.List.{filter, sum_by}
use Rattle.dav_core.specs.Numbers.{max_u64}
use Rattle.dav_core.specs.Path.{Path, is_at_or_under, path_cmp}
use Rattle.dav_core.specs.World.{Nodes}
use Rattle.dav_store.specs.declared.memfs.used.Amount.{Amount}
use Rattle.dav_store.specs.Subtrees.{under}
use Rattle.dav_store.specs.Used.{amount_at, len_of, size_of}
use Rattle.dav_limits.specs.Parts.{under_where}
use Rattle.dav_limits.proofs.SumLemmas.{len_parts, same_len, same_sum, sum_parts}

second_holds : (a b : Bool) → (a && b) ≡ true → b ≡ true
second_holds true b is = is
second_holds false b is = cc

module _ (top : Path) (test : Path → Bool) (old new : Nodes) (sorted : T (is_sorted path_cmp old)) (other : T (is_sorted path_cmp new))
    (alike : (q : Path) → not (test q) ≡ true → option_map size_of (find path_cmp q old) ≡ option_map size_of (find path_cmp q new)) where
  abbrev Rest : Path → Bool
  Rest q = is_at_or_under q top && not (test q)

  abbrev pub rest_of : Nodes → Nodes
  rest_of ns = filter (λ e. Rest e.0) ns

  swap : (a b : ℕ) → a + b ≡ b + a
  swap a b = omega arith

  -- how much is there is the rest and the part
  pub files_are : (ns : Nodes) → length (under top ns) ≡ length (rest_of ns) + length (under_where top test ns)
  files_are ns = len_parts (λ e. is_at_or_under e.0 top) (λ e. test e.0) ns ∙ swap (length (under_where top test ns)) (length (rest_of ns))

  pub bytes_are : (ns : Nodes) → sum_by len_of (under top ns) ≡ sum_by len_of (rest_of ns) + sum_by len_of (under_where top test ns)
  bytes_are ns = sum_parts (λ e. is_at_or_under e.0 top) (λ e. test e.0) ns ∙ swap (sum_by len_of (under_where top test ns)) (sum_by len_of (rest_of ns))

  stays : (q : Path) → Rest q ≡ true → option_map size_of (find path_cmp q old) ≡ option_map size_of (find path_cmp q new)
  stays q is = alike q (second_holds (is_at_or_under q top) (not (test q)) is)

  pub was_files : (was : Amount) → was ≡ amount_at top old → was.files ≡ length (rest_of old) + length (under_where top test old)
  was_files was is = ap (λ (a : Amount). a.files) is ∙ files_are old

  pub was_bytes : (was : Amount) → was ≡ amount_at top old → was.bytes ≡ min (sum_by len_of (rest_of old) + sum_by len_of (under_where top test old)) max_u64
  was_bytes was is = ap (λ (a : Amount). a.bytes) is ∙ ap (λ (n : ℕ). min n max_u64) (bytes_are old)

  pub now_is : (now : Amount) → now.files ≡ length (rest_of old) + length (under_where top test new)
      → now.bytes ≡ min (sum_by len_of (rest_of old) + sum_by len_of (under_where top test new)) max_u64 → now ≡ amount_at top new
  now_is now files bytes =
      let f : now.files ≡ length (under top new) =
      files ∙ ap (λ (n : ℕ). n + length (under_where top test new)) (same_len Rest old new sorted other stays) ∙ sym (files_are new) in
      let b : now.bytes ≡ min (sum_by len_of (under top new)) max_u64 =
      bytes ∙ ap (λ (n : ℕ). min (n + sum_by len_of (under_where top test new)) max_u64) (same_sum Rest old new sorted other stays) ∙ ap (λ (n : ℕ). min n max_u64) (sym (bytes_are new)) in
      λ i. record { files = f i; bytes = b i }
