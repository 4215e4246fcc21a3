-- Lines that limit.
use Rattle.std.proofs.Common.{◌≡◌, ◌<◌, ◌≤◌, ◌+◌, ℕ, true, Option, List, [], ◌∷◌, ◌++◌, append-nil, codes, get_or, length, take, ap, sym, ◌∙◌, subst}
use Rattle.std.proofs.lemmas.List.{take_all}
use Rattle.dav_access.specs.declared.fault.Fault.{Fault}
use Rattle.dav_access.specs.declared.fault.Fault.TheVariants.{BadNumber, BadPath, TooMany}
use Rattle.dav_access.specs.declared.limit.Limit.{Limit}
use Rattle.dav_access.specs.declared.limit.Measure.{Measure}
use Rattle.dav_access.specs.declared.limit.Said.{Said}
use Rattle.dav_access.specs.declared.limit.Said.TheVariants.{Granted, Limited}
use Rattle.dav_access.specs.Amounts.{IsAmount}
use Rattle.dav_access.specs.RulesText.{BeginsLimit, IsLimitLine, IsMeasureWord, IsRulesLine, Limits, begins_with, ended, files, is_silent, limit, other, space}
use Rattle.dav_access.specs.RulesFaults.{IsLimitFault, IsMostFault, IsPathFault, NamesBadNumber, NamesTooMany, Says, bad_number, bad_path, granted_by, limited_by, too_many}
use Rattle.dav_access.proofs.RulesTextLemmas.{take_one}

-- ---- the faults of a line that limits

module _ (words : List (List ℕ)) (word : List ℕ) where
  -- the faults of what follows the path
  pub number_bad : (rest : List (List ℕ)) → words ≡ word ∷ rest → ((number : ℕ) → ¬ IsAmount word number) → (f : Fault) → NamesBadNumber word f → IsMostFault words f
  number_bad rest is lacks (BadNumber text) named = bad_number is lacks named
  number_bad rest is lacks _ named = absurd named

  pub word_extra : (extra : List ℕ) (rest : List (List ℕ)) (number : ℕ) → words ≡ word ∷ extra ∷ rest → IsAmount word number → (f : Fault) → NamesTooMany extra f → IsMostFault words f
  word_extra extra rest number is amount (TooMany text) named = too_many is amount named
  word_extra extra rest number is amount _ named = absurd named

  -- the path is at fault
  pub limit_path_bad : (path : List ℕ) (rest : List (List ℕ)) (measure : Measure) → words ≡ path ∷ rest → IsMeasureWord word measure
      → (f : Fault) → IsPathFault path f → IsLimitFault (word ∷ words) f
  limit_path_bad path rest measure is measured (BadPath e) bad = bad_path (ap (λ (ws : List (List ℕ)). word ∷ ws) is) measured bad
  limit_path_bad path rest measure is measured _ bad = absurd bad

-- ---- limits

-- a line that says nothing limits nothing
pub silent_no_limit : (line : List (List ℕ)) → is_silent line ≡ true → ¬ BeginsLimit line
silent_no_limit [] silent = λ begins. begins
silent_no_limit (word ∷ words) silent = λ begins. no_comment word begins.0 begins.1 silent
  where
    no_comment : (w : List ℕ) (measure : Measure) → IsMeasureWord w measure → ¬ (begins_with 35 w ≡ true)
    no_comment w _ (files is) hash = let same : begins_with 35 (codes "files") ≡ true = sym (ap (begins_with 35) is) ∙ hash in cc
    no_comment w _ (space is) hash = let same : begins_with 35 (codes "space") ≡ true = sym (ap (begins_with 35) is) ∙ hash in cc

-- limits and one line more
limits_more : (lines : List (List (List ℕ))) (line : List (List ℕ)) (limits : List Limit) (l : Limit) → Limits lines limits → IsLimitLine line l
    → Limits (lines ++ line ∷ []) (limits ++ l ∷ [])
limits_more [] line limits l ended is = limit is ended
limits_more (first ∷ rest) line limits l (limit one so_far) is = limit one (limits_more rest line _ l so_far is)
limits_more (first ∷ rest) line limits l (other free so_far) is = other free (limits_more rest line limits l so_far is)

limits_same : (lines : List (List (List ℕ))) (line : List (List ℕ)) (limits : List Limit) → Limits lines limits → ¬ BeginsLimit line → Limits (lines ++ line ∷ []) limits
limits_same [] line limits ended lacks = other lacks ended
limits_same (first ∷ rest) line limits (limit one so_far) lacks = limit one (limits_same rest line _ so_far lacks)
limits_same (first ∷ rest) line limits (other free so_far) lacks = other free (limits_same rest line limits so_far lacks)

-- what a line says, added to what the lines before it limit
pub said_limits : (users : Option (List (List ℕ × List ℕ))) (all lines before : List (List (List ℕ))) (place : ℕ) (line : List (List ℕ)) (limits limits' : List Limit) (said : Said)
    → place < length lines → line ≡ get_or lines place line → Limits (take place lines) limits → Says users all before line said → limits' ≡ limits ++ limited_by said
    → Limits (take (place + 1) lines) limits'
said_limits users all lines before place line limits limits' (Granted grants) within is so_far says items =
    subst (λ (ls : List (List (List ℕ))). Limits ls limits') (sym (take_one lines place line within is))
    (subst (Limits (take place lines ++ line ∷ [])) (sym (items ∙ append-nil limits)) (limits_same (take place lines) line limits so_far says.0))
said_limits users all lines before place line limits limits' (Limited l) within is so_far says items =
    subst (λ (ls : List (List (List ℕ))). Limits ls limits') (sym (take_one lines place line within is))
    (subst (Limits (take place lines ++ line ∷ [])) (sym items) (limits_more (take place lines) line limits l so_far says))

-- and what it grants
pub said_grants : (users : Option (List (List ℕ × List ℕ))) (lines before : List (List (List ℕ))) (line : List (List ℕ)) (said : Said) → Says users lines before line said
    → IsRulesLine users lines before line (granted_by said)
said_grants users lines before line (Granted grants) says = says.1
said_grants users lines before line (Limited l) says = limit says

-- the limits of all lines
pub limits_done : (lines : List (List (List ℕ))) (place : ℕ) (limits : List Limit) → length lines ≤ place → Limits (take place lines) limits → Limits lines limits
limits_done lines place limits whole so_far = subst (λ (ls : List (List (List ℕ))). Limits ls limits) (take_all place lines whole) so_far
