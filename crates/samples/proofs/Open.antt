-- Names for lists of definitions, by sections of document 01: a proof that says `unfolding logs` opens all that the
-- line under `logs` names.
-- Assumes nothing.
use Rattle.steps.specs.Table.{knots}
use Rattle.steps.specs.Knots.{T}
use Rattle.steps.specs.Addend.{addend}
use Rattle.steps.specs.Logs.{larger, difference, add_exp, sum_exp, mix_of}
use Rattle.steps.specs.OneMinus.{low, first, ln_one_minus_exp}
use Rattle.variants_and_fragments.specs.Refusals.{unless, each, and_then}
use Rattle.variants_and_fragments.specs.Words.{within, below}
use Rattle.variants_and_fragments.specs.First.{first_fail_from, first_fail, holds_below}
use Rattle.variants_and_fragments.specs.Sums.{sum_over, count_over, sum_to}
use Rattle.variants_and_fragments.specs.Case.{usable}
use Rattle.variants_and_fragments.specs.Layout.{variant_ok, call_ok}
use Rattle.variants_and_fragments.specs.Chain.{chain_from, chain_of, memb, reached, link_ok, good_chain, fragment_ok, is_reached, reached_call_ok, in_chain, free_chain, free_ok}
use Rattle.variants_and_fragments.specs.Alleles.{alleles_start, alleles_ok}
use Rattle.variants_and_fragments.specs.Check.{check_case_and_haplotypes_outcome, check_case_outcome}
use Rattle.variants_and_fragments.specs.Decode.{tabulate_from, allele_start, allele_at, variant_from, call_from, fragment_from, decode}
use Rattle.variants_and_fragments.specs.Encode.{encode_words, encode_bases}
use Rattle.variants_and_fragments.specs.Pileup.{only, usable_calls}
use Rattle.genotype_probs.specs.Rates.{rate_ok, rate_sum, rate_tests, rate_test}
use Rattle.genotype_probs.specs.Letters.{base_of, base_number, letter_number, same_letter, transition_of, change}
use Rattle.genotype_probs.specs.Priors.{finite, one_minus_exp, haploid, homozygous, diploid, letters_prior, first_letter, stop_at, compared, alleles_prior, get_prior, all_priors}
use Rattle.genotype_probs.specs.Posteriors.{first_maximum}
use Rattle.haplotype_assembly.specs.Phase.{ordered_first, ordered_second, phased_test, phased_rule, phased, phased_flags, pair_place, start_allele, start_haplotypes}
use Rattle.haplotype_assembly.specs.GivenPhase.{sets_ok, phase_tests}
use Rattle.shuffle.specs.Permutation.{times, all_below, each_once, permutes}
use Rattle.shuffle.specs.Orders.{order_count, order_at}
use Rattle.shuffle.specs.Answers.{orders_outcome}
use Rattle.sweeps.specs.Sweeps.{put_pair, same_haps, call_term, likelihood, per_call, read_share, score_with, score, best_pair, visit, sweep, run, total_of}
use Rattle.likelihoods.specs.SweepCaseOf.{sweep_case_of}
use Rattle.with_haplotypes.specs.Inner.Checks.{limit_checks, round_checks}

-- section 1
unfoldable pub logs : Unit {0}
unfolding knots T addend larger difference add_exp sum_exp low first ln_one_minus_exp
logs = tt

-- section 2: words of a case, and the case of words
unfoldable pub layout : Unit {0}
unfolding encode_words encode_bases count_over decode tabulate_from variant_from allele_at allele_start alleles_start fragment_from call_from chain_of chain_from
layout = tt

-- refusals 1 to 5
unfoldable pub checks : Unit {0}
unfolding check_case_outcome check_case_and_haplotypes_outcome unless each within below first_fail_from first_fail holds_below variant_ok call_ok link_ok chain_from chain_of memb reached good_chain fragment_ok is_reached reached_call_ok in_chain free_chain free_ok alleles_start alleles_ok
checks = tt

-- section 3
unfoldable pub priors : Unit {0}
unfolding logs first_fail_from first_fail within rate_ok rate_sum rate_tests rate_test holds_below base_of base_number letter_number same_letter transition_of change finite one_minus_exp haploid homozygous diploid letters_prior first_letter stop_at compared alleles_prior get_prior all_priors
priors = tt

-- section 5
unfoldable pub phases : Unit {0}
unfolding ordered_first ordered_second phased_test phased_rule phased phased_flags pair_place start_allele start_haplotypes tabulate_from
phases = tt

-- section 6, at a decoded case
unfoldable pub rounds : Unit {0}
unfolding priors phases sweep_case_of usable_calls only usable mix_of order_at order_count sum_over put_pair same_haps sum_to call_term likelihood per_call read_share score_with score first_maximum best_pair visit sweep run total_of
rounds = tt

-- refusals 6 to 9
unfoldable pub round_checks_lem : Unit {0}
unfolding priors limit_checks round_checks and_then unless each first_fail_from sets_ok phase_tests orders_outcome order_count order_at permutes all_below each_once times
round_checks_lem = tt
