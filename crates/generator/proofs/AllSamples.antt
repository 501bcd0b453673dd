-- Every sample has the records that the definition gives, by computation.
use mathlib.Core.Path.{◌≡◌, refl}
use mathlib.Core.List.{map}
use Rattle.groups.specs.Groups.{some_from, lowest_from, common, shares, empty, within, set_from, only, union}
use Rattle.rules.specs.Lists.{greatest, least, sum, all, any, keep}
use Rattle.rules.specs.Shares.{share_of, pending_of, unfilled, unfilled_by_others}
use Rattle.rules.specs.Claims.{held_until, end_of, remaining}
use Rattle.rules.specs.Order.{precedes, before}
use Rattle.rules.specs.Pool.{covers, units_at, used, enough, spare, held_units}
use Rattle.rules.specs.Seeking.{seek}
use Rattle.rules.specs.Packing.{ready, start_for, moved, ahead, start_within, packed_start, pack}
use Rattle.rules.specs.Placing.{clear, fits, place, contention, start_bound}
use Rattle.rules.specs.Granting.{taken_before, truly_free, goes_within, goes, granted, grant, grants}
use Rattle.rules.specs.Tests.{first_number}
use Rattle.rules.specs.Calls.{tests, advance, finish, join, remove, admit, act, step, new}
use Rattle.lcg.specs.Draws.{state_after, draw_after, state_in}
use Rattle.format.specs.Format.{defaults, default, format, row_in, fields_of}
use Rattle.format.specs.Calls.{numbers, made, with_value, bare, filled, call_of}
use Rattle.replay.specs.Records.{says_call, step_of}
use Rattle.generator.specs.Workload.{draws_from, groups_for, lowest_on, batch_of, records_from, workload_calls}
use Rattle.generator.specs.Samples.{Sample, samples, given}

pub all-samples : map given samples ≡ map (λ (x : Sample). x.calls) samples
unfolding some_from lowest_from common shares empty within set_from only union greatest least sum all any keep held_until end_of remaining precedes before covers units_at used enough spare held_units ready start_for moved ahead start_within packed_start pack clear fits seek place contention start_bound taken_before truly_free goes_within goes granted grant grants share_of pending_of unfilled unfilled_by_others first_number tests advance finish join remove admit act step new state_after draw_after state_in defaults default format row_in fields_of numbers made with_value bare filled call_of says_call step_of draws_from groups_for lowest_on batch_of records_from workload_calls samples
all-samples = refl
