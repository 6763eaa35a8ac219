-- 01, section 3: the priors of a variant's genotypes, a definition for each of its sentences, in its order.
-- Assumes nothing.
use Rattle.std.specs.Prelude.{cond, List, ℕ, ◌*◌, ◌-◌, ◌/◌, ◌%◌, eqb, ltb, ℤ, pos, negsuc, ◌+ℤ◌, length, get_or}
use Rattle.steps.specs.Logs.{Log, mark, steps}
use Rattle.steps.specs.OneMinus.{ln_one_minus_exp}
use Rattle.variants_and_fragments.specs.Case.{Case, Variant, allele_count, allele_of, variant_of}
use Rattle.variants_and_fragments.specs.First.{first_fail}
use Rattle.genotype_probs.specs.declared.Rates.{Rates}
use Rattle.genotype_probs.specs.declared.letters.Compared.{Compared}
use Rattle.genotype_probs.specs.Rates.{hom_snv_rate, het_snv_rate, hom_indel_rate, het_indel_rate, ts_rate, tv_rate, rate_sum}
use Rattle.genotype_probs.specs.Letters.{Base, Letter, base, D, I, base_of, same_letter, Change, same, transition, transversion, indel, change}

-- 01, section 1: ln(0.5) is −4,096, ln(0.25) is −8,192
abbrev pub ln_half : ℤ
ln_half = negsuc 4095

abbrev pub ln_quarter : ℤ
ln_quarter = negsuc 8191

-- the steps of a log probability that is no mark
unfoldable pub finite : Log → ℤ
finite mark = pos 0
finite (steps z) = z

-- `ln_one_minus_exp` of steps below 0, which is no mark
unfoldable pub one_minus_exp : ℤ → ℤ
one_minus_exp p = finite (ln_one_minus_exp (steps p))

-- 01, section 3: Haploid (ref, ref) is `ln_one_minus_exp`(het_snv + het_indel), a product of rates (odd). Haploid transition is het_snv + ts,
-- transversion het_snv + tv, D or I het_indel − 4096 − 8192
unfoldable pub haploid : Rates → Change → ℤ
haploid rates same = one_minus_exp (het_snv_rate rates +ℤ het_indel_rate rates)
haploid rates transition = het_snv_rate rates +ℤ ts_rate rates
haploid rates transversion = het_snv_rate rates +ℤ tv_rate rates
haploid rates indel = het_indel_rate rates +ℤ ln_half +ℤ ln_quarter

-- 01, section 3: Diploid: homozygous reference is `ln_one_minus_exp` of the four-rate sum; other homozygous base hom_snv + ts or tv; DD and
-- II hom_indel − 12288, that is − 4096 − 8192
unfoldable pub homozygous : Rates → Change → ℤ
homozygous rates same = one_minus_exp (rate_sum rates)
homozygous rates transition = hom_snv_rate rates +ℤ ts_rate rates
homozygous rates transversion = hom_snv_rate rates +ℤ tv_rate rates
homozygous rates indel = hom_indel_rate rates +ℤ ln_half +ℤ ln_quarter

-- 01, section 3: two letters add their haploid values
unfoldable pub diploid : Rates → Base → Letter → Letter → ℤ
diploid rates ref first second =
    cond (same_letter first second)
    (homozygous rates (change ref first))
    (haploid rates (change ref first) +ℤ haploid rates (change ref second))

-- 01, section 3: `get_prior` adds −4096 where the letters differ
unfoldable pub letters_prior : Rates → Base → Letter → Letter → ℤ
letters_prior rates ref first second = diploid rates ref first second +ℤ cond (same_letter first second) (pos 0) ln_half

-- base i of an allele
abbrev pub base_at : List ℕ → ℕ → Base
base_at allele i = base_of (get_or allele i 0)

-- 01, section 3: Letters: an allele of the reference's length gives its first base, a longer one I, a shorter one D
unfoldable pub first_letter : List ℕ → List ℕ → Letter
first_letter reference allele =
    cond (eqb (length allele) (length reference))
    (base (base_at allele 0))
    (cond (ltb (length reference) (length allele)) I D)

-- 01, section 3: where the comparison stops: at the first base that differs, or at the last
unfoldable pub stop_at : List ℕ → List ℕ → ℕ
stop_at reference allele = first_fail (λ i. eqb (get_or reference i 0) (get_or allele i 0)) (length allele - 1)

-- 01, section 3: Where that base equals the current reference base, both letters are taken where the comparison stops. What a comparison leaves is
-- `Compared` of src/letters.rt, the reference base and the allele's letter
unfoldable pub compared : List ℕ → List ℕ → Base → Compared
compared reference allele current =
    let first = first_letter reference allele in
    let stop = stop_at reference allele in
    cond (same_letter first (base current))
    (record { base = base_at reference stop; letter = base (base_at allele stop) })
    (record { base = current; letter = first })

-- 01, section 3: The second allele starts from the reference base the first one left (odd): AC/AG read as (0,1) looks up C with C and A
unfoldable pub alleles_prior : Rates → List ℕ → List ℕ → List ℕ → ℤ
alleles_prior rates reference first second =
    let one = compared reference first (base_at reference 0) in
    let two = compared reference second one.base in
    letters_prior rates two.base one.letter two.letter

-- `get_prior` of the genotype (i, j), beside the variant's reference, its allele 0
unfoldable pub get_prior : Rates → Variant → ℕ → ℕ → ℤ
get_prior rates variant i j = alleles_prior rates (allele_of variant 0) (allele_of variant i) (allele_of variant j)

-- `get_all_priors` in a variant's nine places: k × k row-major, then zeros
unfoldable pub all_priors : Rates → Variant → ℕ → ℤ
all_priors rates variant p =
    let k = allele_count variant in cond (ltb p (k * k)) (get_prior rates variant (p / k) (p % k)) (pos 0)

-- element e of the priors of a case, nine places per variant
unfoldable pub prior_at : Rates → Case → ℕ → ℤ
prior_at rates case e = all_priors rates (variant_of case (e / 9)) (e % 9)
