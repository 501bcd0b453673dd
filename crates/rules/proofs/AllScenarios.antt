-- Every scenario of specs/Scenarios comes out as the papers say, by computation from the rules.
use mathlib.Core.Path.{◌≡◌, refl}
use mathlib.Core.List.{◌++◌, map}
use Rattle.groups.specs.Groups.{some_from, lowest_from, common, shares, empty, within}
use Rattle.rules.specs.Lists.{greatest, least, sum, all, any, keep, first_with}
use Rattle.rules.specs.Shares.{share_of, with_share, pending_of, unfilled, unfilled_by_others, reserved_in_all}
use Rattle.rules.specs.Claims.{held_until, end_of, remaining}
use Rattle.rules.specs.Order.{precedes, before}
use Rattle.rules.specs.Pool.{covers, units_at, used, enough, spare, held_units, free_units}
use Rattle.rules.specs.Seeking.{seek}
use Rattle.rules.specs.Packing.{ready, start_for, moved, ahead, start_within, packed_start, pack}
use Rattle.rules.specs.Placing.{clear, fits, place, contention, start_bound}
use Rattle.rules.specs.Granting.{taken_before, truly_free, goes_within, goes, granted, grant, grants}
use Rattle.rules.specs.Tests.{first_number}
use Rattle.rules.specs.Calls.{tests, advance, finish, join, remove, admit, act, step, new, standing_of, common_of, after, answers}
use Rattle.rules.specs.Chains.{counts_as, links, link, chain_within, chain, chain_of}
use Rattle.rules.specs.Scenarios.{scenarios, expected, outcome, pool_scenarios, grace_scenarios, outcome_on_pool, expected_on_pool, pairs, told_of_pair, chain_scenarios, chain_told, queued, down_from, longest_chain, sharings, number_of}

pub all-scenarios : map outcome scenarios ≡ map expected scenarios
unfolding some_from lowest_from common shares empty within greatest least sum all any keep held_until end_of remaining precedes before covers units_at used enough spare held_units ready start_for moved ahead start_within packed_start pack clear fits seek place contention start_bound taken_before truly_free goes_within goes granted grant grants share_of pending_of unfilled unfilled_by_others first_number tests advance finish join remove admit act step new standing_of after answers scenarios outcome
all-scenarios = refl

pub all-pool-scenarios : map outcome_on_pool (pool_scenarios ++ grace_scenarios) ≡ map expected_on_pool (pool_scenarios ++ grace_scenarios)
unfolding some_from lowest_from common shares empty within greatest least sum all any keep held_until end_of remaining precedes before covers units_at used enough spare held_units free_units ready start_for moved ahead start_within packed_start pack clear fits seek place contention start_bound taken_before truly_free goes_within goes granted grant grants share_of pending_of unfilled unfilled_by_others first_number tests advance finish join remove admit act step new standing_of after answers pool_scenarios grace_scenarios outcome_on_pool
all-pool-scenarios = refl

pub all-pairs : map told_of_pair pairs ≡ map (λ p. p.told) pairs
unfolding some_from lowest_from common shares empty within greatest least sum all any keep held_until end_of remaining precedes before covers units_at used enough spare held_units ready start_for moved ahead start_within packed_start pack clear fits seek place contention start_bound taken_before truly_free goes_within goes granted grant grants share_of pending_of unfilled unfilled_by_others first_number tests advance finish join remove admit act step new common_of after answers pairs told_of_pair
all-pairs = refl

pub all-chains : map chain_told chain_scenarios ≡ map (λ x. x.told) chain_scenarios
unfolding some_from lowest_from common shares empty within greatest least sum all any keep first_with held_until end_of remaining precedes before covers units_at used enough spare held_units ready start_for moved ahead start_within packed_start pack clear fits seek place contention start_bound taken_before truly_free goes_within goes granted grant grants share_of pending_of unfilled unfilled_by_others first_number tests advance finish join remove admit act step new counts_as links link chain_within chain chain_of after chain_scenarios chain_told
all-chains = refl

pub longest-chain : longest_chain ≡ map queued (down_from 64)
unfolding some_from lowest_from common shares empty first_with held_until end_of new counts_as links link chain_within chain down_from longest_chain
longest-chain = refl

pub all-sharings : map number_of sharings ≡ map (λ x. x.number) sharings
unfolding some_from empty within sum any keep held_units pack truly_free goes_within goes granted grant grants share_of with_share pending_of unfilled unfilled_by_others reserved_in_all first_number tests advance finish act step new after sharings number_of
all-sharings = refl
