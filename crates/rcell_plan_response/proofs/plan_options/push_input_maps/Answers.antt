use Rattle.rcell_plan_response.proofs.plan_options.push_input_maps.Goals as goal

pub returns-in-Reclass : goal.returns-in-Reclass
returns-in-Reclass g c = rw c.in-Reclass.is c.push_count_one_and_map_name.ensures

pub returns-in-Clump : goal.returns-in-Clump
returns-in-Clump g c = rw c.in-Clump.is c.push_count_one_and_map_name-in-Clump.ensures

pub returns-in-OutAscii : goal.returns-in-OutAscii
returns-in-OutAscii g c = rw c.in-OutAscii.is c.push_count_one_and_map_name-in-OutAscii.ensures
