use Rattle.hickory_resolver_theorems.specs.Worked.{eviction_cases, lifetime_cases, attempt_cases, special_cases, alias_cases}
use Rattle.hickory_resolver_theorems.specs.WorkedServices.{service_cases}
use Rattle.hickory_resolver_theorems.specs.WorkedLoop.{loop_cases}
use Rattle.hickory_resolver_theorems.specs.WorkedRun.{run_cases}
use Rattle.hickory_resolver_theorems.specs.WorkedInterleaved.{interleaved_cases}
use Rattle.hickory_resolver_theorems.specs.WorkedRequests.{request_cases}
use Rattle.hickory_resolver_theorems.proofs.AliasCases.{alias_lifetime_cases}
use Rattle.hickory_resolver_theorems.proofs.worked.worked_cases.Goals as goal

pub returns : goal.returns
returns c = record {
  eviction = eviction_cases;
  lifetimes = lifetime_cases;
  attempts = attempt_cases;
  special = special_cases;
  aliases = alias_cases;
  services = service_cases;
  loops = loop_cases;
  alias_lifetimes = alias_lifetime_cases;
  runs = run_cases;
  interleaved = interleaved_cases;
  requests = request_cases;
}
