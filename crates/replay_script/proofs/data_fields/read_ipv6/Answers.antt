use Rattle.replay_script.proofs.data_fields.read_ipv6.Goals as goal

pub returns-in-Err : goal.returns-in-Err
returns-in-Err c = (c.wrong_field.ensures, λ d h. c.in-Err.ensures.value h.0 h.1)
