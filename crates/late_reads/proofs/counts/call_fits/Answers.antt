-- The call's one or two places are tested.
use Rattle.std.proofs.Common.{to_z-of_z}
use Rattle.late_reads.proofs.Places.{first_at, second_at, fits_two, fits_one}
use Rattle.late_reads.proofs.counts.call_fits.Goals as goal

pub fits_at-one-requires : goal.fits_at-one-requires
fits_at-one-requires c = rw (to_z-of_z c.ranges.d) (first_at _ c.places-first.ensures c.requires)

pub fits_at-requires : goal.fits_at-requires
fits_at-requires c = rw (to_z-of_z c.ranges.d) (second_at _ c.places-first.ensures c.requires c.in-Some.is)

pub returns-in-Some : goal.returns-in-Some
returns-in-Some c = rw (c.fits_at-one.ensures, c.fits_at.ensures, to_z-of_z c.ranges.d) (fits_two _ c.places-first.ensures c.in-Some.is c.args.d c.args.counts.now)

pub returns-in-None : goal.returns-in-None
returns-in-None c = rw (c.fits_at-one.ensures, to_z-of_z c.ranges.d) (fits_one _ c.places-first.ensures c.in-None.is c.args.d c.args.counts.now)
